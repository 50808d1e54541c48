use Rattle.std.proofs.Common.{◌≡◌, ℕ, suc, ◌+◌, ◌-◌, ◌≤◌, length}
use Rattle.kmip_ttlv_kinds.proofs.reading.read_rest.Given as goal
use Rattle.kmip_ttlv_reader.specs.Outcomes.{rest_outcome}

abbrev pub invariant-loop-next : goal.invariant-loop-next
invariant-loop-next g l = (n : ℕ)
    × (rest_outcome (suc (length l.scope.bytes.now)) g.L.PartList.fields l.closed l.scope.bytes.now l.scope.owner l.pos
    l.scope.end ≡ rest_outcome (suc n) g.L.PartList.fields l.closed l.scope.bytes.now l.scope.owner l.next l.scope.end)
    × (length l.scope.bytes.now ≤ n + l.next) × (l.next ≤ l.scope.end) × (l.next ≤ length l.scope.bytes.now)

abbrev pub decreases-loop-next : goal.decreases-loop-next
decreases-loop-next g l = length l.scope.bytes.now - l.next
