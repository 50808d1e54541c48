-- The events of the items that are left complete those of all.
use Rattle.std.proofs.Common.{drop, map}
use Rattle.kmip_ttlv_base.specs.{Values.values_of, Visits.ReceivesEach}
use Rattle.kmip_attribute_set.proofs.tags.visit_each.Given as goal

abbrev pub invariant-loop-item : goal.invariant-loop-item
invariant-loop-item g l =
    let tells = ReceivesEach g.V.Visitor.knows g.V.Visitor.step in
    let item = g.T.Item.item in
    (new : _) → tells (values_of (map item (drop l.item-index l.items))) l.visitor new → tells (values_of (map item l.items)) l.fn.visitor new
