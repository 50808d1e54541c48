use Rattle.std.proofs.Common.{◌≡◌, ℕ, suc, ◌+◌, ◌-◌, ◌≤◌, length, drop}
use Rattle.kmip_ttlv_de.proofs.read.+reader.Given as goal
use Rattle.kmip_ttlv_base.specs.Forms.{fields_of, form_of, forms_of}
use Rattle.kmip_ttlv_base.specs.Values.{views}
use Rattle.kmip_ttlv_reader.specs.Outcomes.{outcome, fields_outcome, forms_outcome, seq_outcome, run_outcome}
use Rattle.kmip_ttlv_reader.proofs.Loops.{with_front}

abbrev pub invariant-read_fields-loop-field : goal.invariant-read_fields-loop-field
invariant-read_fields-loop-field g l =
    (fields_outcome (fields_of l.fields) l.scope.bytes.now l.scope.owner l.fn.stored l.pos l.scope.end ≡ with_front (views l.values.items)
    (fields_outcome (fields_of (drop l.field-index l.fields)) l.scope.bytes.now l.scope.owner l.stored l.next l.scope.end))
    × (l.pos ≤ l.next) × (l.next ≤ l.scope.end) × (l.next ≤ length l.scope.bytes.now)

abbrev pub invariant-read_parts-loop-shape : goal.invariant-read_parts-loop-shape
invariant-read_parts-loop-shape g l =
    (forms_outcome (forms_of l.shapes) l.scope.bytes.now l.scope.owner l.fn.stored l.pos l.scope.end ≡ with_front (views l.values.items)
    (forms_outcome (forms_of (drop l.shape-index l.shapes)) l.scope.bytes.now l.scope.owner l.stored l.next l.scope.end))
    × (l.pos ≤ l.next) × (l.next ≤ l.scope.end) × (l.next ≤ length l.scope.bytes.now)

abbrev pub invariant-read_seq-loop-values : goal.invariant-read_seq-loop-values
invariant-read_seq-loop-values g l = (n : ℕ)
    × (seq_outcome (outcome (form_of l.shape)) l.scope.bytes.now l.scope.owner l.fn.stored l.pos l.scope.end ≡ with_front (views l.values.items)
    (run_outcome (suc n) (outcome (form_of l.shape)) l.pos l.scope.bytes.now l.scope.owner l.stored l.next l.scope.end))
    × (length l.scope.bytes.now ≤ n + l.next) × (l.pos + 8 ≤ l.next) × (l.next ≤ l.scope.end) × (l.next ≤ length l.scope.bytes.now)

abbrev pub decreases-read_seq-loop-values : goal.decreases-read_seq-loop-values
decreases-read_seq-loop-values g l = length l.scope.bytes.now - l.next
