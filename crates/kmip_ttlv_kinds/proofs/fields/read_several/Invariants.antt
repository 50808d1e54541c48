use Rattle.std.proofs.Common.{◌≡◌, ℕ, suc, ◌+◌, ◌-◌, ◌<◌, ◌≤◌, length}
use Rattle.kmip_ttlv_kinds.proofs.fields.read_several.Given as goal
use Rattle.kmip_ttlv_reader.specs.Outcomes.{outcome, seq_outcome, run_outcome}
use Rattle.kmip_ttlv_reader.specs.Spots.{values_by}
use Rattle.kmip_ttlv_reader.proofs.Loops.{with_front}

abbrev pub invariant-loop-values : goal.invariant-loop-values
invariant-loop-values g l =
    let e = g.E.Element in
    let read = outcome e.form in
    (n : ℕ)
    × (seq_outcome read l.scope.bytes.now l.scope.owner l.fn.cursor.stored l.fn.cursor.pos l.scope.end ≡ with_front (values_by e.value l.values.items)
    (run_outcome (suc n) read l.fn.cursor.pos l.scope.bytes.now l.scope.owner l.cursor.stored l.cursor.pos l.scope.end))
    × (length l.scope.bytes.now ≤ n + l.cursor.pos) × (l.fn.cursor.pos + 8 ≤ l.cursor.pos) × (l.cursor.pos ≤ l.scope.end)
    × (l.cursor.pos ≤ length l.scope.bytes.now) × (0 < length l.values.items)

abbrev pub decreases-loop-values : goal.decreases-loop-values
decreases-loop-values g l = length l.scope.bytes.now - l.cursor.pos
