-- What sorting gives: an order by the first fields.
use Rattle.std.proofs.Common.{◌≡◌, ◌+◌, List, false, get_or, refl}
use Rattle.std.specs.Prelude.{IsSorted}
use Rattle.std.specs.Ordering.{ordering_then, nat_cmp, is_lt}
use Rattle.std.specs.declared.cmp.Ordering.{Ordering}
use Rattle.std.specs.declared.cmp.Ordering.TheVariants.{Less, Equal, Greater}
use Rattle.ttlv_packets.specs.declared.{message.Message.Message, place.Placed.Placed, segment.Segment.Segment}
use Rattle.ttlv_packets.specs.contracts.message.MessageOrd.TheImpl as message
use Rattle.ttlv_packets.specs.contracts.place.PlacedOrd.TheImpl as placed
use Rattle.ttlv_packets.specs.contracts.segment.SegmentOrd.TheImpl as segment
use Rattle.ttlv_packets.specs.Orders.{flow_order, segment_order, placed_order, message_order}

first : (p r : Ordering) → is_lt (ordering_then p r) ≡ false → is_lt p ≡ false
first Less r h = cc
first Equal r h = refl
first Greater r h = refl

behind : (p x y : Ordering) → (is_lt x ≡ false → is_lt y ≡ false) → is_lt (ordering_then p x) ≡ false → is_lt (ordering_then p y) ≡ false
behind Less x y then_ h = cc
behind Equal x y then_ h = then_ h
behind Greater x y then_ h = refl

two : (p q r : Ordering) → is_lt (ordering_then p (ordering_then q r)) ≡ false → is_lt (ordering_then p q) ≡ false
two p q r = behind p (ordering_then q r) q (first q r)

message_sorted : (x y : Message) → is_lt (message.ghosts.cmp x y) ≡ false → is_lt (message_order x y) ≡ false
message_sorted x y = two (nat_cmp x.packet y.packet) (nat_cmp x.start y.start) _

segment_sorted : (x y : Segment) → is_lt (segment.ghosts.cmp x y) ≡ false → is_lt (segment_order x y) ≡ false
segment_sorted x y = two (flow_order x.flow y.flow) (nat_cmp x.packet y.packet) _

placed_sorted : (x y : Placed) → is_lt (placed.ghosts.cmp x y) ≡ false → is_lt (placed_order x y) ≡ false
placed_sorted x y =
    behind (nat_cmp x.stream y.stream) (ordering_then (nat_cmp x.at y.at) (segment.ghosts.cmp x.segment y.segment)) _
    (behind (nat_cmp x.at y.at) (segment.ghosts.cmp x.segment y.segment) _ (segment_sorted x.segment y.segment))

pub messages_sorted : (xs : List Message) → IsSorted message.ghosts.cmp xs → IsSorted message_order xs
messages_sorted xs sorted k d low high = message_sorted (get_or xs (k + 1) d) (get_or xs k d) (sorted k d low high)

pub segments_sorted : (xs : List Segment) → IsSorted segment.ghosts.cmp xs → IsSorted segment_order xs
segments_sorted xs sorted k d low high = segment_sorted (get_or xs (k + 1) d) (get_or xs k d) (sorted k d low high)

pub places_sorted : (xs : List Placed) → IsSorted placed.ghosts.cmp xs → IsSorted placed_order xs
places_sorted xs sorted k d low high = placed_sorted (get_or xs (k + 1) d) (get_or xs k d) (sorted k d low high)
