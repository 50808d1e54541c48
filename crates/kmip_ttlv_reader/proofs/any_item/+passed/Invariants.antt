use Rattle.std.proofs.Common.{ℕ, suc, ◌+◌, ◌*◌, ◌-◌, ◌≤◌, length}
use Rattle.kmip_ttlv_base.specs.Values.{Values}
use Rattle.kmip_ttlv_reader.specs.Outcomes.{any_outcome, each_outcome}
use Rattle.kmip_ttlv_reader.proofs.AnyItems.{With}
use Rattle.kmip_ttlv_reader.proofs.any_item.+passed.Given as goal

abbrev pub decreases-item_passed : goal.decreases-item_passed
decreases-item_passed g l = 3 * l.levels

abbrev pub decreases-items_passed : goal.decreases-items_passed
decreases-items_passed g l = 3 * l.levels + 1

abbrev pub decreases-structure_passed : goal.decreases-structure_passed
decreases-structure_passed g l = 3 * l.levels + 2

abbrev pub invariant-items_passed-items : goal.invariant-items_passed-items
invariant-items_passed-items g l = (n : ℕ) × (front : (Values → Values))
    × With (each_outcome (suc (length l.scope.bytes.now)) (any_outcome l.levels) l.scope.bytes.now l.pos l.scope.end) front
    (each_outcome (suc n) (any_outcome l.levels) l.scope.bytes.now l.next l.scope.end)
    × (length l.scope.bytes.now ≤ n + l.next) × (l.next ≤ l.scope.end) × (l.next ≤ length l.scope.bytes.now)

abbrev pub decreases-items_passed-items : goal.decreases-items_passed-items
decreases-items_passed-items g l = l.scope.end - l.next
