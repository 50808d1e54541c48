-- The messages of streams.
use Rattle.std.specs.Prelude.{◌≡◌, ℕ, ◌+◌, ◌-◌, ◌<◌, true, false, not, ◌==◌, ◌||◌, List, [], ◌∷◌, ◌++◌, length, drop, slice_index, nat_lt}
use Rattle.std.specs.Prelude.{Option, Some, None, if◌then◌else◌}
use Rattle.ttlv_packets.specs.declared.place.Placed.{Placed}
use Rattle.ttlv_packets.specs.declared.place.TheConstants.{FIRST}
use Rattle.ttlv_packets.specs.declared.message.Message.{Message}
use Rattle.ttlv_packets.specs.Numbers.{be32}
use Rattle.ttlv_packets.specs.Streams.{giver, lacking}

-- how many bytes the first message takes: as many as its header states, if they are there and it begins with a Structure; else all
abbrev pub size_in : List ℕ → ℕ
size_in s =
    if nat_lt (length s) 8 || not (slice_index s 3 == 1) then length s
    else if nat_lt (length s) (be32 s 4 + 8) then length s
    else be32 s 4 + 8

-- a message whose last byte came with a segment
abbrev pub message_by : Placed → ℕ → ℕ → ℕ → Message
message_by p start offset size = record {
  packet = p.segment.packet;
  start = start + offset;
  size = size;
  offset = offset;
  flow = p.segment.flow;
  time = p.segment.time;
  gap = false;
}

-- the gap in front of a segment
abbrev pub gap_of : Placed → ℕ → ℕ → Message
gap_of p start offset = record {
  packet = p.segment.packet;
  start = start + offset;
  size = 0;
  offset = offset;
  flow = p.segment.flow;
  time = p.segment.time;
  gap = true;
}

-- a stream's bytes, which begin so far behind those of the streams before, are up to an offset these messages, behind others: each
-- as long as its header states, or else all that is left; each with the packet of its last byte
pub data Splits (bytes : List ℕ) (start : ℕ) (run : List Placed) (before : List Message) : ℕ → List Message → Type 0 where
  no_message : Splits bytes start run before 0 before
  message_more :
      (at : ℕ) (ms : List Message) (p : Placed)
      → Splits bytes start run before at ms → at < length bytes
      → giver (FIRST + (at + size_in (drop at bytes) - 1)) run ≡ Some p
      → Splits bytes start run before (at + size_in (drop at bytes)) (ms ++ message_by p start at (size_in (drop at bytes)) ∷ [])

-- the gap behind a stream's bytes, if a segment was sent with more
abbrev pub gaps_of : ℕ → ℕ → Option Placed → List Message
gaps_of start size None = []
gaps_of start size (Some p) = gap_of p start size ∷ []

abbrev pub gaps : ℕ → ℕ → ℕ → List Placed → List Message
gaps end start size run = gaps_of start size (lacking end run)
