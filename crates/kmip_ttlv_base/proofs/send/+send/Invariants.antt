use Rattle.std.proofs.Common.{drop}
use Rattle.kmip_ttlv_base.specs.{Values.views, Visits.ReceivesEach}
use Rattle.kmip_ttlv_base.proofs.send.+send.Given as goal

-- the events of the values that are left complete those of all values
abbrev pub invariant-send_each-loop-value : goal.invariant-send_each-loop-value
invariant-send_each-loop-value g l =
    let tells = ReceivesEach g.V.Visitor.knows g.V.Visitor.step in
    (new : _) → tells (views (drop l.value-index l.values)) l.visitor new → tells (views l.values) l.fn.visitor new
