use Rattle.std.proofs.Common.{arith}
use Rattle.kmip_ttlv_items.specs.WalkPlaces.{IsLeafTo}
use Rattle.kmip_ttlv_items.proofs.Walks.{passed_none, passed_more}
use Rattle.kmip_ttlv_items.proofs.head.behind_leaves.Goals as goal

pub leaves-init : goal.leaves-init
leaves-init c = record { passed = passed_none c.args.bytes.now c.args.offset c.args.end; before = omega arith }

pub leaves-preserved : goal.leaves-preserved
leaves-preserved c =
    let leaf : IsLeafTo c.args.bytes.now c.leaves.at c.min-stop.result c.in-Some.next = c.in-Some.ensures in
    record { passed = passed_more {stop = c.min-stop.result} (omega arith) (omega arith) c.leaves.invariant.passed leaf; before = leaf.fits }
