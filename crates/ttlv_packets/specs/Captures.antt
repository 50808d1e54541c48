-- What TCP carries on a port of a capture.
use Rattle.std.specs.Prelude.{◌≡◌, ℕ, ◌+◌, ◌<◌, Bool, true, false, List, [], ◌∷◌, ◌++◌, length, take, drop, None, IsPermutation, IsSorted}
use Rattle.std.specs.declared.cmp.Ordering.{Ordering}
use Rattle.ttlv_packets.specs.declared.segment.Segment.{Segment}
use Rattle.ttlv_packets.specs.declared.place.Placed.{Placed}
use Rattle.ttlv_packets.specs.declared.place.TheConstants.{FIRST}
use Rattle.ttlv_packets.specs.declared.message.Message.{Message}
use Rattle.ttlv_packets.specs.Files.{HasSegments, classic_order, is_capture}
use Rattle.ttlv_packets.specs.Listings.{HasListing}
use Rattle.ttlv_packets.specs.Orders.{segment_order, placed_order, message_order}
use Rattle.ttlv_packets.specs.Streams.{places, stream_bytes, reach, first_run}
use Rattle.ttlv_packets.specs.Messages.{Splits, gaps}

-- the segments of the first stream
abbrev pub run_of : List Placed → List Placed
run_of [] = []
run_of (p ∷ ps) = take (first_run p.stream (p ∷ ps)) (p ∷ ps)

-- of the first from an index on
abbrev pub run_at : List Placed → ℕ → List Placed
run_at ps i = run_of (drop i ps)

-- the bytes of a stream were added, with its messages and its gap
pub record Carried (s : List ℕ) (run : List Placed) (old new : List ℕ) (before after : List Message) : Type 0 where
  pub bytes : new ≡ old ++ stream_bytes s FIRST run
  pub messages : List Message
  pub splits : Splits (stream_bytes s FIRST run) (length old) run before (length (stream_bytes s FIRST run)) messages
  pub ends : after ≡ messages ++ gaps (reach FIRST run) (length old) (length (stream_bytes s FIRST run)) run

-- the bytes and the messages of the streams in front of an index
pub data Carries (s : List ℕ) (ps : List Placed) : ℕ → List ℕ → List Message → Type 0 where
  no_stream : Carries s ps 0 [] []
  stream_more :
      (i : ℕ) (old new : List ℕ) (before after : List Message)
      → Carries s ps i old before → i < length ps → Carried s (run_at ps i) old new before after
      → Carries s ps (i + length (run_at ps i)) new after

-- a list in order
pub record IsSortedOf {A : Type 0} (cmp : A → A → Ordering) (xs ys : List A) : Type 0 where
  pub same : IsPermutation xs ys
  pub sorted : IsSorted cmp ys

-- the segments of bytes, in the order of their flows and of the capture; their places, in the order of the streams and of these; the
-- bytes and the messages that the streams have, and these in the order of their packets
pub record IsPut (s : List ℕ) (segments : List Segment) (bytes : List ℕ) (messages : List Message) : Type 0 where
  pub by_flow : List Segment
  pub by_place : List Placed
  pub by_stream : List Message
  pub flows : IsSortedOf segment_order segments by_flow
  pub streams : IsSortedOf placed_order (places None by_flow) by_place
  pub carries : Carries s by_place (length by_place) bytes by_stream
  pub shown : IsSortedOf message_order by_stream messages

-- the segments on a port up to an offset, and the bytes that they stand in: those of a capture, or else of the packets that a text lists
abbrev pub IsFound : Bool → List ℕ → ℕ → List ℕ → ℕ → List Segment → Type 0
IsFound true s port source end segments = (source ≡ s) × HasSegments s port (classic_order s) end segments
IsFound false s port source end segments = HasListing s port source end segments

-- these put together
pub record IsRead (s : List ℕ) (port : ℕ) (bytes : List ℕ) (messages : List Message) (end : ℕ) : Type 0 where
  pub source : List ℕ
  pub segments : List Segment
  pub found : IsFound (is_capture s) s port source end segments
  pub put : IsPut source segments bytes messages
