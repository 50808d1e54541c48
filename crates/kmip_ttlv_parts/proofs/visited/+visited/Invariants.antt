use Rattle.std.proofs.Common.{ℕ, suc, ◌*◌, ◌+◌, ◌-◌, length}
use Rattle.kmip_ttlv_base.specs.Values.{Values}
use Rattle.kmip_ttlv_base.specs.Visits.{ReceivesEach}
use Rattle.kmip_ttlv_reader.specs.Outcomes.{any_outcome, each_outcome}
use Rattle.kmip_ttlv_reader.proofs.AnyItems.{With}
use Rattle.kmip_ttlv_parts.proofs.visited.+visited.Given as goal

abbrev pub decreases-visit_item : goal.decreases-visit_item
decreases-visit_item g l = 3 * l.levels

abbrev pub decreases-visit_items : goal.decreases-visit_items
decreases-visit_items g l = 3 * l.levels + 1

abbrev pub decreases-visit_node : goal.decreases-visit_node
decreases-visit_node g l = 3 * l.levels + 2

-- what is visited of the items behind is visited of all
abbrev pub invariant-visit_items-items : goal.invariant-visit_items-items
invariant-visit_items-items g l = (n : ℕ) × (front : (Values → Values))
    × With (each_outcome (suc (length l.bytes)) (any_outcome l.levels) l.bytes l.pos l.end) front
    (each_outcome n (any_outcome l.levels) l.bytes l.next l.end)
    × ((vs : Values) (w : _) → ReceivesEach g.V.Visitor.knows g.V.Visitor.step vs l.visitor w
    → ReceivesEach g.V.Visitor.knows g.V.Visitor.step (front vs) l.fn.visitor w)

abbrev pub decreases-visit_items-items : goal.decreases-visit_items-items
decreases-visit_items-items g l = l.end - l.next
