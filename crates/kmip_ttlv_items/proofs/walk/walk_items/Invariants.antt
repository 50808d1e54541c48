use Rattle.std.proofs.Common.{◌≡◌, List, length, map}
use Rattle.kmip_ttlv_items.specs.{declared.found.FoundItem.FoundItem, FoundItems.overlaid, Stepping.Met, Stepping.left}
use Rattle.kmip_ttlv_items.proofs.walk.walk_items.Given as goal

abbrev pub invariant-walk : goal.invariant-walk
invariant-walk g l = record {
  bytes : l.walk.bytes.now ≡ l.bytes;
  keeps : (found : List FoundItem) × Met l.walk found × (l.count ≡ length found) × (l.out ≡ overlaid (map g.T.FromFoundItem.converted found) l.fn.out);
}

abbrev pub decreases-walk : goal.decreases-walk
decreases-walk g l = left l.walk
