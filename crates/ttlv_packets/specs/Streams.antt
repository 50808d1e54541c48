-- The streams of segments: the place of each, and the bytes of all.
use Rattle.std.specs.Prelude.{ℕ, ◌+◌, ◌-◌, ◌%◌, ◌^◌, Bool, not, ◌==◌, ◌||◌, ◌&&◌, List, [], ◌∷◌, ◌++◌, drop, nat_lt, nat_le}
use Rattle.std.specs.Prelude.{Option, Some, None, if◌then◌else◌, min, max}
use Rattle.ttlv_packets.specs.declared.flow.Address.{Address}
use Rattle.ttlv_packets.specs.declared.flow.Endpoint.{Endpoint}
use Rattle.ttlv_packets.specs.declared.flow.Flow.{Flow}
use Rattle.ttlv_packets.specs.declared.segment.Segment.{Segment}
use Rattle.ttlv_packets.specs.declared.place.Placed.{Placed}
use Rattle.ttlv_packets.specs.declared.place.Cursor.{Cursor}
use Rattle.ttlv_packets.specs.declared.place.TheConstants.{FIRST}
use Rattle.ttlv_packets.specs.Numbers.{part}

abbrev pub same_address : Address → Address → Bool
same_address a b = a.high == b.high && a.low == b.low

abbrev pub same_end : Endpoint → Endpoint → Bool
same_end a b = same_address a.address b.address && a.port == b.port

abbrev pub same_flow : Flow → Flow → Bool
same_flow a b = same_end a.source b.source && same_end a.target b.target

-- a segment is of the same stream: of its flow, and not the beginning of another connection
abbrev pub continues : Cursor → Segment → Bool
continues c s = same_flow c.flow s.flow && (not s.opens || s.sequence == c.first)

-- at most what 64 bits hold
abbrev pub capped : ℕ → ℕ
capped n = min n (2 ^ 64 - 1)

-- how far a sequence number is ahead of another
abbrev pub ahead : ℕ → ℕ → ℕ
ahead from to = (to % 4294967296 + (4294967296 - from % 4294967296)) % 4294967296

-- its place, by that of the other: ahead of it or behind it, whichever is nearer
abbrev pub moved : ℕ → ℕ → ℕ → ℕ
moved at from to = if nat_lt (ahead from to) 2147483648 then capped (at + ahead from to) else at - (4294967296 - ahead from to)

-- a stream begins at the place FIRST with the sequence number of its first segment, and its segments follow by theirs
abbrev pub begun : Segment → Cursor
begun s = record { flow = s.flow; stream = s.packet; first = s.sequence; sequence = s.sequence; at = FIRST }

abbrev pub advanced : Option Cursor → Segment → Cursor
advanced None s = begun s
advanced (Some c) s =
    if continues c s
    then record { flow = c.flow; stream = c.stream; first = c.first; sequence = s.sequence; at = moved c.at c.sequence s.sequence }
    else begun s

abbrev pub placed_at : Cursor → Segment → Placed
placed_at c s = record { stream = c.stream; at = c.at; segment = s }

-- the places of segments that stand flow by flow, each in the order of the capture
abbrev pub places : Option Cursor → List Segment → List Placed
places c [] = []
places c (s ∷ ss) = placed_at (advanced c s) s ∷ places (Some (advanced c s)) ss

-- the place behind a segment's bytes, and behind those that were sent
abbrev pub end_of : Placed → ℕ
end_of p = capped (p.at + p.segment.count)

abbrev pub sent_to : Placed → ℕ
sent_to p = capped (p.at + p.segment.sent)

-- the bytes of a segment from a place on
abbrev pub new_bytes : List ℕ → ℕ → Placed → List ℕ
new_bytes s next p = drop (next - p.at) (part s p.segment.start p.segment.count)

-- the bytes from a place on of segments that stand by their places: each byte is taken once, up to the first gap
abbrev pub stream_bytes : List ℕ → ℕ → List Placed → List ℕ
stream_bytes s next [] = []
stream_bytes s next (p ∷ ps) = if nat_lt next p.at then [] else new_bytes s next p ++ stream_bytes s (max next (end_of p)) ps

-- the place behind them
abbrev pub reach : ℕ → List Placed → ℕ
reach next [] = next
reach next (p ∷ ps) = if nat_lt next p.at then next else reach (max next (end_of p)) ps

-- the first segment that was sent with a byte at a place or behind it
abbrev pub lacking : ℕ → List Placed → Option Placed
lacking end [] = None
lacking end (p ∷ ps) = if nat_lt end (sent_to p) then Some p else lacking end ps

-- the first segment with the byte at a place or one behind it, or else the last
abbrev pub giver_behind : ℕ → Placed → List Placed → Option Placed
giver_behind place p [] = Some p
giver_behind place p (q ∷ ps) = if nat_le (end_of p) place then giver_behind place q ps else Some p

abbrev pub giver : ℕ → List Placed → Option Placed
giver place [] = None
giver place (p ∷ ps) = giver_behind place p ps

-- how many of the first segments are of a stream
abbrev pub first_run : ℕ → List Placed → ℕ
first_run stream [] = 0
first_run stream (p ∷ ps) = if p.stream == stream then first_run stream ps + 1 else 0
