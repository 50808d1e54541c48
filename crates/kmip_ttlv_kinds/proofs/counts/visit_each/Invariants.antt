use Rattle.std.proofs.Common.{drop, map}
use Rattle.kmip_ttlv_base.specs.{Values.values_of, Visits.ReceivesEach}
use Rattle.kmip_ttlv_kinds.proofs.counts.visit_each.Given as goal

-- the events of the elements that are left complete those of all
abbrev pub invariant-loop-element : goal.invariant-loop-element
invariant-loop-element g l =
    let tells = ReceivesEach g.V.Visitor.knows g.V.Visitor.step in
    let written = g.E.Element.rules.written in
    (new : _) → tells (values_of (map written (drop l.element-index l.elements))) l.visitor new → tells (values_of (map written l.elements)) l.fn.visitor new
