use Rattle.std.proofs.Common.{drop, map}
use Rattle.kmip_ttlv_base.specs.{Values.values_of, Visits.ReceivesEach}
use Rattle.kmip_ttlv_base.proofs.parts.each.Given as goal

-- the events of the values that are left complete those of all values
abbrev pub invariant-loop-value : goal.invariant-loop-value
invariant-loop-value g l =
    let tells = ReceivesEach g.V.Visitor.knows g.V.Visitor.step in
    let stated = g.T.Serialize.stated in
    (new : _) → tells (values_of (map stated (drop l.value-index l.values))) l.visitor new → tells (values_of (map stated l.values)) l.fn.visitor new
