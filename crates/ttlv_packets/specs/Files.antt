-- The packets of a capture, part by part.
use Rattle.std.specs.Prelude.{◌≡◌, ℕ, zero, suc, ◌+◌, ◌-◌, ◌*◌, ◌/◌, ◌%◌, Bool, true, false, ◌==◌, ◌||◌, ◌&&◌, List, [], ◌∷◌, ◌++◌, length, drop, slice_index, slice_get, nat_lt, nat_le, ◌<◌, ◌≤◌}
use Rattle.std.specs.Prelude.{Option, Some, None, if◌then◌else◌, min, option_to_list, unwrap_or, is_some}
use Rattle.ttlv_packets.specs.declared.file.TheConstants.{UNITS}
use Rattle.ttlv_packets.specs.declared.flow.Time.{Time}
use Rattle.ttlv_packets.specs.declared.file.Interface.{Interface}
use Rattle.ttlv_packets.specs.declared.file.Block.{Block}
use Rattle.ttlv_packets.specs.declared.file.BlockKind.{BlockKind}
use Rattle.ttlv_packets.specs.declared.file.BlockKind.TheVariants.{Section, Interface as AnInterface, Packet, Other}
use Rattle.ttlv_packets.specs.declared.segment.Segment.{Segment}
use Rattle.ttlv_packets.specs.Frames.{segment_of}
use Rattle.ttlv_packets.specs.Numbers.{be32, number16, number32, part}

-- how many units of time a second has, by their decimal digits; 0 where that isn't known
abbrev pub per_second : ℕ → ℕ
per_second digits = if nat_lt digits 10 then slice_index UNITS digits else 0

-- the time of so many units since the beginning of 1970
abbrev pub time_of : ℕ → ℕ → Option Time
time_of digits units =
    if per_second digits == 0 then None
    else Some (record { seconds = units / per_second digits; micros = units % per_second digits * 1000000 / per_second digits })

-- a packet of an interface, if there is such an interface
abbrev pub packet_of : Option Interface → ℕ → ℕ → ℕ → BlockKind
packet_of None start size units = Other
packet_of (Some i) start size units =
    Packet (record { link = i.link; start = start; size = size; time = time_of i.digits units })

-- a packet of a part that has 16 bytes in front of it, with seconds, a fraction, and how many bytes are there
abbrev pub record_in : Bool → Interface → List ℕ → ℕ → Option Block
record_in big i rest at =
    if nat_lt (length rest) 16 || nat_lt (length rest) (16 + number32 big rest 8) then None
    else Some (record {
      size = 16 + number32 big rest 8;
      kind = packet_of (Some i) (at + 16) (number32 big rest 8) (number32 big rest 0 * per_second i.digits + number32 big rest 4);
    })

-- how many decimal digits times have, if an option says it, or there are no more options: six if none says it, and 10, which is
-- unknown, for a power of two
abbrev pub decided : Bool → List ℕ → Option ℕ
decided big s =
    if nat_lt (length s) 5 || number16 big s 0 == 0 then Some 6
    else if number16 big s 0 == 9 then Some (min (slice_index s 4) 10)
    else None

-- by an interface's options, of which so many are looked at
unfoldable pub resolution : Bool → ℕ → List ℕ → ℕ
resolution big zero s = 6
resolution big (suc n) s = unwrap_or (decided big s) (resolution big n (drop (4 + (number16 big s 2 + 3) / 4 * 4) s))

-- an interface by its block
abbrev pub interface_in : Bool → List ℕ → Interface
interface_in big block = record {
  link = number16 big block 8;
  digits = resolution big 32 (drop 16 block);
  snap = number32 big block 12;
}

-- a packet with its interface and time
abbrev pub enhanced_in : Bool → List Interface → List ℕ → ℕ → BlockKind
enhanced_in big is block at =
    if nat_lt (length block) (number32 big block 20 + 32) then Other
    else packet_of (slice_get is (number32 big block 8)) (at + 28) (number32 big block 20) (number32 big block 12 * 4294967296 + number32 big block 16)

-- a packet without: it is one of the first interface
abbrev pub snapped : Interface → ℕ → ℕ
snapped i size = if i.snap == 0 then size else min size i.snap

abbrev pub simple_of : Option Interface → List ℕ → ℕ → ℕ → BlockKind
simple_of None block at size = Other
simple_of (Some i) block at size = Packet (record { link = i.link; start = at + 12; size = snapped i (min size (length block - 16)); time = None })

-- what a block is
abbrev pub kind_in : Bool → List Interface → List ℕ → ℕ → BlockKind
kind_in big is block at =
    if number32 big block 0 == 1 && nat_le 20 (length block) then AnInterface (interface_in big block)
    else if number32 big block 0 == 6 && nat_le 32 (length block) then enhanced_in big is block at
    else if number32 big block 0 == 3 && nat_le 16 (length block) then simple_of (slice_get is 0) block at (number32 big block 8)
    else Other

-- the order of the numbers of a section, by its magic number
abbrev pub order_in : List ℕ → Option Bool
order_in rest = if be32 rest 8 == 0x1A2B3C4D then Some true else if be32 rest 8 == 0x4D3C2B1A then Some false else None

-- a block of so many bytes, if that many are there
abbrev pub block_of : Bool → List Interface → List ℕ → ℕ → ℕ → Option Block
block_of big is rest at size =
    if nat_lt size 12 || nat_lt (length rest) size then None
    else Some (record { size = size; kind = kind_in big is (part rest 0 size) at })

abbrev pub section_of : List ℕ → Option Bool → Option Block
section_of rest None = None
section_of rest (Some big) =
    if nat_lt (number32 big rest 4) 28 || nat_lt (length rest) (number32 big rest 4) then None
    else Some (record { size = number32 big rest 4; kind = Section big })

-- the block in front of bytes, if all of it is there
abbrev pub block_in : Bool → List Interface → List ℕ → ℕ → Option Block
block_in big is rest at =
    if be32 rest 0 == 0x0A0D0D0A then section_of rest (order_in rest) else block_of big is rest at (number32 big rest 4)

-- what is known behind a part: the order of numbers, and the interfaces
abbrev pub order_behind : Bool → BlockKind → Bool
order_behind big (Section order) = order
order_behind big kind = big

abbrev pub interfaces_behind : List Interface → BlockKind → List Interface
interfaces_behind is (Section order) = []
interfaces_behind is (AnInterface i) = is ++ i ∷ []
interfaces_behind is kind = is

-- what a part carries on a port
abbrev pub carried : List ℕ → ℕ → BlockKind → List Segment
carried s port (Packet f) = option_to_list (segment_of s f port)
carried s port kind = []

-- a capture of pcap, by its first four bytes, if its header is there: the order of its numbers, and how many digits its times have
abbrev pub classic_order : List ℕ → Option Bool
classic_order s =
    if nat_lt (length s) 24 then None
    else if be32 s 0 == 0xA1B2C3D4 || be32 s 0 == 0xA1B23C4D then Some true
    else if be32 s 0 == 0xD4C3B2A1 || be32 s 0 == 0x4D3CB2A1 then Some false
    else None

abbrev pub classic_digits : List ℕ → ℕ
classic_digits s = if be32 s 0 == 0xA1B23C4D || be32 s 0 == 0x4D3CB2A1 then 9 else 6

abbrev pub classic_interface : Bool → List ℕ → Interface
classic_interface big s = record { link = number32 big s 20 % 65536; digits = classic_digits s; snap = 0 }

-- the segments on a port of the parts of a pcap up to an offset
pub data Classic (s : List ℕ) (port : ℕ) (big : Bool) (i : Interface) : ℕ → List Segment → Type 0 where
  no_record : Classic s port big i 24 []
  record_more :
      (at : ℕ) (segments : List Segment) (b : Block)
      → Classic s port big i at segments → record_in big i (drop at s) at ≡ Some b
      → Classic s port big i (at + b.size) (segments ++ carried s port b.kind)

-- the same of pcapng, with the order of numbers and the interfaces there
pub data Blocks (s : List ℕ) (port : ℕ) : ℕ → Bool → List Interface → List Segment → Type 0 where
  no_block : Blocks s port 0 true [] []
  block_more :
      (at : ℕ) (big : Bool) (is : List Interface) (segments : List Segment) (b : Block)
      → Blocks s port at big is segments → block_in big is (drop at s) at ≡ Some b
      → Blocks s port (at + b.size) (order_behind big b.kind) (interfaces_behind is b.kind) (segments ++ carried s port b.kind)

-- a packet at an offset is within so many bytes
abbrev pub IsKindWithin : ℕ → ℕ → BlockKind → Type 0
IsKindWithin at size (Packet f) = f.start + f.size ≤ at + size
IsKindWithin at size kind = Unit {0}

-- a part is
pub record IsWithin (at size : ℕ) (b : Block) : Type 0 where
  pub some : 0 < b.size
  pub fits : b.size ≤ size
  pub kind : IsKindWithin at size b.kind

-- the segments on a port of all parts of a pcap, up to an offset where none is there as a whole
pub record HasClassic (s : List ℕ) (port : ℕ) (big : Bool) (end : ℕ) (segments : List Segment) : Type 0 where
  pub reads : Classic s port big (classic_interface big s) end segments
  pub ends : record_in big (classic_interface big s) (drop end s) end ≡ None

-- the same of pcapng
pub record HasBlocks (s : List ℕ) (port end : ℕ) (segments : List Segment) : Type 0 where
  pub big : Bool
  pub interfaces : List Interface
  pub reads : Blocks s port end big interfaces segments
  pub ends : block_in big interfaces (drop end s) end ≡ None

-- a capture of either kind has these segments up to an offset
abbrev pub HasSegments : List ℕ → ℕ → Option Bool → ℕ → List Segment → Type 0
HasSegments s port None end segments = HasBlocks s port end segments
HasSegments s port (Some big) end segments = HasClassic s port big end segments

-- bytes begin a capture
abbrev pub is_capture : List ℕ → Bool
is_capture s = is_some (classic_order s) || be32 s 0 == 0x0A0D0D0A
