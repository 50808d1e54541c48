-- What TCP carries in a frame: the network packet by the link type, the segment by IP, its bytes by TCP.
use Rattle.std.specs.Prelude.{ℕ, ◌+◌, ◌-◌, ◌*◌, ◌/◌, ◌%◌, ◌^◌, Bool, false, not, ◌==◌, ◌||◌, ◌&&◌, List, [], length, drop, slice_index, nat_lt, nat_le}
use Rattle.std.specs.Prelude.{Option, Some, None, if◌then◌else◌, min}
use Rattle.ttlv_packets.specs.declared.flow.Address.{Address}
use Rattle.ttlv_packets.specs.declared.internet.Transport.{Transport}
use Rattle.ttlv_packets.specs.declared.internet.Header.{Header}
use Rattle.ttlv_packets.specs.declared.segment.Frame.{Frame}
use Rattle.ttlv_packets.specs.declared.segment.Segment.{Segment}
use Rattle.ttlv_packets.specs.Numbers.{be16, be32, be64, part}

-- an EtherType is that of a VLAN tag; of IPv4 or of IPv6
abbrev pub is_tag : ℕ → Bool
is_tag kind = kind == 0x8100 || kind == 0x88A8 || kind == 0x9100

abbrev pub is_internet : ℕ → Bool
is_internet kind = kind == 0x0800 || kind == 0x86DD

-- a frame from its EtherType on, without a VLAN tag
abbrev pub behind_tag : List ℕ → List ℕ
behind_tag s = if is_tag (be16 s 0) then drop 4 s else s

-- what stands so far behind the EtherType of IP
abbrev pub network_behind : List ℕ → ℕ → List ℕ
network_behind s count = if is_internet (be16 s 0) then drop count s else []

-- the network packet of a frame: of Ethernet and of Linux's cooked frames with up to two VLAN tags, of its second version, of BSD's
-- loopback, of raw IP
abbrev pub network : ℕ → List ℕ → List ℕ
network link s =
    if link == 1 then network_behind (behind_tag (behind_tag (drop 12 s))) 2
    else if link == 113 then network_behind (behind_tag (behind_tag (drop 14 s))) 2
    else if link == 276 then network_behind s 20
    else if link == 0 || link == 108 then drop 4 s
    else if link == 101 || link == 228 || link == 229 then s
    else []

-- an address of IPv4, as IPv6 has it; of IPv6
abbrev pub four_address : List ℕ → ℕ → Address
four_address s at = record { high = 0; low = 0xFFFF00000000 + be32 s at }

abbrev pub six_address : List ℕ → ℕ → Address
six_address s at = record { high = be64 s at; low = be64 s (at + 8) }

-- how many bytes a packet states; all that are there where the network card was to fill that in
abbrev pub four_size : List ℕ → ℕ
four_size s = if be16 s 2 == 0 then length s else be16 s 2

abbrev pub six_size : List ℕ → ℕ
six_size s = if be16 s 4 == 0 then length s else be16 s 4 + 40

-- the TCP segment in a packet of IPv4, if it is none of the fragments behind the first
abbrev pub four : List ℕ → Option Transport
four s =
    if nat_lt (slice_index s 0 % 16) 5 || not (slice_index s 9 == 6) || not (be16 s 6 % 8192 == 0) then None
    else Some (record {
      source = four_address s 12;
      target = four_address s 16;
      header = 4 * (slice_index s 0 % 16);
      size = four_size s - 4 * (slice_index s 0 % 16);
      more = be16 s 6 / 8192 % 2 == 1;
    })

abbrev pub header_at : ℕ → ℕ → Bool → Header
header_at kind at more = record { kind = kind; at = at; more = more }

-- the header behind one that stands between IPv6 and TCP: options, a route, authentication, the first of several fragments
unfoldable pub next_header : List ℕ → Header → Header
next_header s h =
    let rest = drop h.at s in
    if h.kind == 0 || h.kind == 43 || h.kind == 60 then header_at (slice_index rest 0) (h.at + 8 * slice_index rest 1 + 8) h.more
    else if h.kind == 51 then header_at (slice_index rest 0) (h.at + 4 * slice_index rest 1 + 8) h.more
    else if h.kind == 44 && be16 rest 2 / 8 == 0 then header_at (slice_index rest 0) (h.at + 8) (h.more || be16 rest 2 % 2 == 1)
    else h

-- the header behind up to six of these
unfoldable pub settled : List ℕ → Header
settled s =
    let first = header_at (slice_index s 6) 40 false in
    next_header s (next_header s (next_header s (next_header s (next_header s (next_header s first)))))

-- the TCP segment in a packet of IPv6
abbrev pub six : List ℕ → Option Transport
six s =
    if not ((settled s).kind == 6) then None
    else Some (record {
      source = six_address s 8;
      target = six_address s 24;
      header = (settled s).at;
      size = six_size s - (settled s).at;
      more = (settled s).more;
    })

-- in a network packet, by its version
abbrev pub transport_in : List ℕ → Option Transport
transport_in s =
    if slice_index s 0 / 16 == 4 then four s
    else if slice_index s 0 / 16 == 6 then six s
    else None

-- a TCP segment is there up to its bytes, and has the port
abbrev pub is_ours : List ℕ → ℕ → Bool
is_ours t port = nat_le 20 (length t) && (nat_le 5 (slice_index t 12 / 16) && (be16 t 0 == port || be16 t 2 == port))

-- it carries something: the beginning of a connection, or bytes, and isn't the word that the connection is broken
abbrev pub is_kept : ℕ → ℕ → Bool
is_kept flags sent = flags / 4 % 2 == 0 && (flags / 2 % 2 == 1 || nat_lt 0 sent)

-- how many bytes it was sent with: one more than the first of several fragments has, at least
abbrev pub sent_in : Transport → List ℕ → ℕ
sent_in p t =
    let stated = p.size - 4 * (slice_index t 12 / 16) in if p.more then min (stated + 1) (2 ^ 64 - 1) else stated

-- the bytes of a TCP segment that ends with the frame; the number behind the beginning of a connection is that of its first byte
abbrev pub segment_in : Frame → Transport → List ℕ → ℕ → Option Segment
segment_in f p t port =
    if not (is_ours t port) then None
    else if not (is_kept (slice_index t 13) (sent_in p t)) then None
    else Some (record {
      flow = record {
        source = record { address = p.source; port = be16 t 0 };
        target = record { address = p.target; port = be16 t 2 };
      };
      packet = f.start;
      sequence = (be32 t 4 + slice_index t 13 / 2 % 2) % 4294967296;
      opens = slice_index t 13 / 2 % 2 == 1;
      start = f.start + f.size - length (drop (4 * (slice_index t 12 / 16)) t);
      count = min (p.size - 4 * (slice_index t 12 / 16)) (length (drop (4 * (slice_index t 12 / 16)) t));
      sent = sent_in p t;
      time = f.time;
    })

abbrev pub segment_by : Frame → List ℕ → Option Transport → ℕ → Option Segment
segment_by f packet None port = None
segment_by f packet (Some p) port = segment_in f p (drop p.header packet) port

-- what a frame carries on a port
abbrev pub segment_of : List ℕ → Frame → ℕ → Option Segment
segment_of s f port =
    let packet = network f.link (part s f.start f.size) in segment_by f packet (transport_in packet) port
