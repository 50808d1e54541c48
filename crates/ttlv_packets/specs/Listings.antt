-- The packets that tcpdump lists: rows of digits, each behind the offset of its first byte in its packet.
use Rattle.std.specs.Prelude.{◌≡◌, ◌⊎◌, ℕ, ◌+◌, ◌-◌, ◌*◌, ◌<◌, ◌≤◌, Bool, true, false, not, ◌==◌, ◌||◌, ◌&&◌, List, [], ◌∷◌, ◌++◌, length, take, drop, min, nat_lt, nat_le}
use Rattle.std.specs.Prelude.{slice_index, is_some, Option, Some, None, if◌then◌else◌}
use Rattle.ttlv_packets.specs.declared.segment.Frame.{Frame}
use Rattle.ttlv_packets.specs.declared.segment.Segment.{Segment}
use Rattle.ttlv_packets.specs.declared.listing.Listing.{Listing}
use Rattle.ttlv_packets.specs.Frames.{network, transport_in, segment_of}
use Rattle.std.specs.Prelude.{option_to_list}

-- how many bytes of a text stand in front of the first of a value
abbrev pub until : ℕ → List ℕ → ℕ
until stop [] = 0
until stop (b ∷ s) = if b == stop then 0 else until stop s + 1

-- a text up to its first line feed
abbrev pub line_of : List ℕ → List ℕ
line_of s = take (until 10 s) s

-- a space or a tab
abbrev pub is_blank : ℕ → Bool
is_blank b = b == 32 || b == 9

-- how many blanks a text begins with
abbrev pub blanks : List ℕ → ℕ
blanks [] = 0
blanks (b ∷ s) = if is_blank b then blanks s + 1 else 0

-- what stands behind the blanks and `0x` that a row begins with; nothing of another line
abbrev pub behind_mark : List ℕ → List ℕ
behind_mark s =
    if nat_lt 0 (blanks s) && (slice_index s (blanks s) == 48 && slice_index s (blanks s + 1) == 120) then drop (blanks s + 2) s else []

-- a hexadecimal digit, and what it counts
abbrev pub is_digit : ℕ → Bool
is_digit b = (nat_le 48 b && nat_le b 57) || (nat_le 65 b && nat_le b 70) || (nat_le 97 b && nat_le b 102)

abbrev pub digit : ℕ → ℕ
digit b = if nat_le b 57 then b - 48 else if nat_le b 70 then b - 55 else b - 87

-- a number below 2^32 behind digits that count so much, if a colon is behind it
abbrev pub offset_from : ℕ → List ℕ → Option ℕ
offset_from n [] = None
offset_from n (b ∷ s) =
    if b == 58 then Some n
    else if not (is_digit b) || nat_le 268435456 n then None
    else offset_from (16 * n + digit b) s

-- the offset that a row begins with; none of another line
abbrev pub offset_of : List ℕ → Option ℕ
offset_of line = offset_from 0 (behind_mark line)

-- how many bytes of a text stand in front of two spaces
abbrev pub until_spaces : List ℕ → ℕ
until_spaces [] = 0
until_spaces (b ∷ s) = if b == 32 && slice_index s 0 == 32 then 0 else until_spaces s + 1

-- what stands behind the offset of a row and the blanks there, up to two spaces: the bytes' digits
abbrev pub behind_offset : List ℕ → List ℕ
behind_offset line = let s = behind_mark line in drop (until 58 s + 1) s

abbrev pub column_of : List ℕ → List ℕ
column_of line = let s = behind_offset line in let t = drop (blanks s) s in take (until_spaces t) t

-- the bytes that digits are, two each, behind a first one if there is one; anything else between them is left out
abbrev pub pairs : Option ℕ → List ℕ → List ℕ
pairs first [] = []
pairs None (b ∷ s) = if is_digit b then pairs (Some (digit b)) s else pairs None s
pairs (Some high) (b ∷ s) = if is_digit b then (16 * high + digit b) ∷ pairs None s else pairs (Some high) s

-- the link type of a packet's bytes: Ethernet or one of Linux's two cooked ones if TCP is found by it, or else raw IP
abbrev pub carries_tcp : ℕ → List ℕ → Bool
carries_tcp link s = is_some (transport_in (network link s))

unfoldable pub link_of : List ℕ → ℕ
link_of s =
    if carries_tcp 1 s then 1
    else if carries_tcp 113 s then 113
    else if carries_tcp 276 s then 276
    else 101

-- the bytes of packets, the packets in front of the last one, and where that begins
pub record Listed : Type 0 where
  pub bytes : List ℕ
  pub frames : List Frame
  pub start : ℕ

abbrev pub nothing : Listed
nothing = record { bytes = []; frames = []; start = 0 }

-- bytes from a place on are a packet; no packet is empty
abbrev pub frame_of : List ℕ → ℕ → Frame
frame_of s start = record { link = link_of (drop start s); start = start; size = length s - start; time = None }

abbrev pub last_of : List ℕ → ℕ → List Frame
last_of s start = if nat_lt start (length s) then frame_of s start ∷ [] else []

-- all packets
abbrev pub closed : Listed → List Frame
closed p = p.frames ++ last_of p.bytes p.start

-- a row begins a packet, or goes on where the last one ends
abbrev pub continues_at : Listed → Option ℕ → Bool
continues_at p None = true
continues_at p (Some offset) = offset == 0 || offset == length p.bytes - p.start

abbrev pub goes_on : Listed → List ℕ → Bool
goes_on p line = continues_at p (offset_of line)

-- the packets with another row, and with another line
abbrev pub with_row : Listed → ℕ → List ℕ → Listed
with_row p offset row =
    if offset == 0 then record { bytes = p.bytes ++ row; frames = closed p; start = length p.bytes }
    else record { bytes = p.bytes ++ row; frames = p.frames; start = p.start }

abbrev pub with_offset : Listed → Option ℕ → List ℕ → Listed
with_offset p None line = p
with_offset p (Some offset) line = with_row p offset (pairs None (column_of line))

abbrev pub with_line : Listed → List ℕ → Listed
with_line p line = with_offset p (offset_of line) line

-- the line at an offset, and the offset behind it
abbrev pub line_at : List ℕ → ℕ → List ℕ
line_at s at = line_of (drop at s)

abbrev pub behind_line : List ℕ → ℕ → ℕ
behind_line s at = min (length s) (at + length (line_at s at) + 1)

-- the packets of the lines up to an offset
pub data Lists (s : List ℕ) : ℕ → Listed → Type 0 where
  no_line : Lists s 0 nothing
  line_more :
      (at : ℕ) (p : Listed)
      → Lists s at p → at < length s → goes_on p (line_at s at) ≡ true
      → Lists s (behind_line s at) (with_line p (line_at s at))

-- of all lines, or up to a row that doesn't go on
abbrev pub Ends : List ℕ → ℕ → Listed → Type 0
Ends s at p = (at ≡ length s) ⊎ (goes_on p (line_at s at) ≡ false)

pub record HasLines (s : List ℕ) (end : ℕ) (p : Listed) : Type 0 where
  pub lists : Lists s end p
  pub ends : Ends s end p

-- a text without a packet is none from its first byte on
abbrev pub settled_end : List Frame → ℕ → ℕ
settled_end [] end = 0
settled_end (f ∷ fs) end = end

-- the segments of packets on a port
abbrev pub segments_of : List ℕ → ℕ → List Frame → List Segment
segments_of s port [] = []
segments_of s port (f ∷ fs) = option_to_list (segment_of s f port) ++ segments_of s port fs

-- a text lists packets of these bytes up to an offset, with these segments on a port
pub record HasListing (s : List ℕ) (port : ℕ) (bytes : List ℕ) (end : ℕ) (segments : List Segment) : Type 0 where
  pub packets : Listed
  pub at : ℕ
  pub lines : HasLines s at packets
  pub bytes_are : bytes ≡ packets.bytes
  pub end_is : end ≡ settled_end (closed packets) at
  pub segments_are : segments ≡ segments_of bytes port (closed packets)

-- packets are within bytes
abbrev pub AreWithin : ℕ → List Frame → Type 0
AreWithin size [] = Unit {0}
AreWithin size (f ∷ fs) = (f.start + f.size ≤ size) × AreWithin size fs

-- what a value of the program stands for
abbrev pub listed_of : {A : Type 0} → Listing A → Listed
listed_of l = record { bytes = l.bytes.items; frames = l.frames.items; start = l.start }
