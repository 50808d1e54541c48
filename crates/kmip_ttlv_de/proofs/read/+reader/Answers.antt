use Rattle.std.proofs.Common.{◌≡◌, suc, ◌+◌, ◌-◌, length, ◌∷◌, ◌++◌, [], ap, ◌∙◌, arith, refl}
use Rattle.std.proofs.lemmas.{Result.err_from_is_err_and, List.drop_all}
use Rattle.kmip_ttlv_base.specs.Forms.{fields_of, form_of, forms_of, content_of, tuple}
use Rattle.kmip_ttlv_reader.specs.Steps.{gives, mapped, within}
use Rattle.kmip_ttlv_reader.specs.Outcomes.{outcome, fields_outcome, run_outcome, seq_outcome, struct_outcome, all_outcome, forms_outcome, tuple_outcome}
use Rattle.kmip_ttlv_types.specs.Places.{tag_at}
use Rattle.kmip_ttlv_base.specs.Values.{views, seq_value, struct_value, tuple_variant_value}
use Rattle.kmip_ttlv_base.proofs.Views.{view-Seq, view-Struct, view-TupleVariant}
use Rattle.kmip_ttlv_base.proofs.Shapes.{form_of-Struct, form_of-Enum, content_of-Tuple}
use Rattle.kmip_ttlv_reader.proofs.Steps.{failure_then}
use Rattle.kmip_ttlv_reader.proofs.Loops.{with_front, front_none, fields_step, fields_fails, fields_done, run_step, run_fails, run_stops, run_done, more_steps}
use Rattle.kmip_ttlv_reader.proofs.Loops.{struct_is, parts_step, parts_fails, parts_done, enum_is, enum_chosen, tuple_fails, tuple_surplus, tuple_done}
use Rattle.kmip_ttlv_reader.proofs.Loops.{content_is}
use Rattle.kmip_ttlv_de.proofs.read.+reader.Goals as goal

pub read_fields-loop-field-init : goal.read_fields-loop-field-init
read_fields-loop-field-init g t c = (
  rw c.in_ok-values.ensures.items
      (front_none (fields_outcome (fields_of c.args.fields.now) c.args.scope.now.bytes.now c.args.scope.now.owner c.args.stored.now c.args.pos
      c.args.scope.now.end)),
  omega arith,
  omega arith,
  omega arith,
)

pub read_fields-loop-field-preserved : goal.read_fields-loop-field-preserved
read_fields-loop-field-preserved g t c =
    let vs : c.push.new.self.items ≡ c.loop-field.values.items ++ c.in_ok-value.value ∷ [] = c.in_ok-push.ensures.items in
    let step = fields_step c.args.fields.now c.loop-field.field-index c.field-item.result c.loop-field.values.items c.in_ok-value.value
    c.args.scope.now.bytes.now c.args.scope.now.owner c.loop-field.stored c.read_field.new.stored c.loop-field.next c.in_ok-value.after c.args.scope.now.end
    c.loop-field-test.true c.field-item.is c.in_ok-value.ensures.read in
    rw vs (
      c.loop-field.invariant.0 ∙ step,
      omega (arith, c.in_ok-value.ensures.further),
      omega (arith, c.in_ok-value.ensures.further),
      omega (arith, c.in_ok-value.ensures.further),
    )

pub read_fields-returns-in_err-value-clause-read : goal.read_fields-returns-in_err-value-clause-read
read_fields-returns-in_err-value-clause-read g t c =
    let p = err_from_is_err_and c.from_residual-in_err-value.result c.from_residual-in_err-value.ensures.1 in
    rw (p.1, p.2) (rw c.loop-field.invariant.0 (fields_fails c.args.fields.now c.loop-field.field-index c.field-item.result c.loop-field.values.items
    c.args.scope.now.bytes.now c.args.scope.now.owner c.loop-field.stored c.loop-field.next c.args.scope.now.end c.in_err-value.field-0.0
    c.loop-field-test.true c.field-item.is c.in_err-value.ensures.read))

pub read_fields-returns-clause-read : goal.read_fields-returns-clause-read
read_fields-returns-clause-read g t c =
    c.loop-field.invariant.0 ∙ fields_done c.args.fields.now c.loop-field.field-index c.loop-field.values.items c.args.scope.now.bytes.now
    c.args.scope.now.owner c.loop-field.stored c.loop-field.next c.args.scope.now.end (drop_all c.loop-field.field-index c.args.fields.now (omega arith))

pub read_parts-loop-shape-init : goal.read_parts-loop-shape-init
read_parts-loop-shape-init g t c = (
  rw c.in_ok-values.ensures.items
      (front_none (forms_outcome (forms_of c.args.shapes.now) c.args.scope.now.bytes.now c.args.scope.now.owner c.args.stored.now c.args.pos
      c.args.scope.now.end)),
  omega arith,
  omega arith,
  omega arith,
)

pub read_parts-loop-shape-preserved : goal.read_parts-loop-shape-preserved
read_parts-loop-shape-preserved g t c =
    let vs : c.push.new.self.items ≡ c.loop-shape.values.items ++ c.in_ok-value.value ∷ [] = c.in_ok-push.ensures.items in
    let step = parts_step c.args.shapes.now c.loop-shape.shape-index c.shape-item.result c.loop-shape.values.items c.in_ok-value.value
    c.args.scope.now.bytes.now c.args.scope.now.owner c.loop-shape.stored c.read_part.new.stored c.loop-shape.next c.in_ok-value.after c.args.scope.now.end
    c.loop-shape-test.true c.shape-item.is c.in_ok-value.ensures.read in
    rw vs (
      c.loop-shape.invariant.0 ∙ step,
      omega (arith, c.in_ok-value.ensures.further),
      omega (arith, c.in_ok-value.ensures.further),
      omega (arith, c.in_ok-value.ensures.further),
    )

pub read_parts-returns-in_err-value-clause-read : goal.read_parts-returns-in_err-value-clause-read
read_parts-returns-in_err-value-clause-read g t c =
    let p = err_from_is_err_and c.from_residual-in_err-value.result c.from_residual-in_err-value.ensures.1 in
    rw (p.1, p.2) (rw c.loop-shape.invariant.0 (parts_fails c.args.shapes.now c.loop-shape.shape-index c.shape-item.result c.loop-shape.values.items
    c.args.scope.now.bytes.now c.args.scope.now.owner c.loop-shape.stored c.loop-shape.next c.args.scope.now.end c.in_err-value.field-0.0
    c.loop-shape-test.true c.shape-item.is c.in_err-value.ensures.read))

pub read_parts-returns-clause-read : goal.read_parts-returns-clause-read
read_parts-returns-clause-read g t c =
    c.loop-shape.invariant.0 ∙ parts_done c.args.shapes.now c.loop-shape.shape-index c.loop-shape.values.items c.args.scope.now.bytes.now c.args.scope.now.owner
    c.loop-shape.stored c.loop-shape.next c.args.scope.now.end (drop_all c.loop-shape.shape-index c.args.shapes.now (omega arith))

pub read_seq-loop-values-init : goal.read_seq-loop-values-init
unfolding seq_outcome
read_seq-loop-values-init g t c =
    let vs : c.push.new.self.items ≡ c.in_ok-first.first ∷ [] = c.in_ok-push.ensures.items
    ∙ ap (λ l. l ++ c.in_ok-first.first ∷ []) c.new-values.ensures.items in (
      length c.args.scope.now.bytes.now,
      rw (vs, c.in_ok-first.ensures.read) refl,
      omega (arith, c.in_ok-first.ensures.further),
      omega (arith, c.in_ok-first.ensures.further),
      omega (arith, c.in_ok-first.ensures.further),
      omega (arith, c.in_ok-first.ensures.further),
    )

pub read_seq-returns-in_err-goes_on-clause-read : goal.read_seq-returns-in_err-goes_on-clause-read
read_seq-returns-in_err-goes_on-clause-read g t c =
    let p = err_from_is_err_and c.from_residual-in_err-goes_on.result c.from_residual-in_err-goes_on.ensures.1 in
    rw (p.1, p.2, c.loop-values.invariant.1) (run_stops (outcome (form_of c.args.shape.now)) c.loop-values.invariant.0 c.args.pos c.loop-values.values.items
    c.args.scope.now.bytes.now c.args.scope.now.owner c.loop-values.stored c.loop-values.next c.args.scope.now.end c.in_err-goes_on.field-0.0
    c.in_err-goes_on.ensures.step)

pub read_seq-returns-in_err-value-clause-read : goal.read_seq-returns-in_err-value-clause-read
read_seq-returns-in_err-value-clause-read g t c =
    let p = err_from_is_err_and c.from_residual-in_err-value.result c.from_residual-in_err-value.ensures.1 in
    rw (p.1, p.2, c.loop-values.invariant.1) (run_fails (outcome (form_of c.args.shape.now)) c.loop-values.invariant.0 c.args.pos c.loop-values.values.items
    c.args.scope.now.bytes.now c.args.scope.now.owner c.loop-values.stored c.loop-values.next c.args.scope.now.end c.in_err-value.field-0.0
    (c.in_ok-goes_on.ensures.step ∙ ap gives c.if-branch.true) c.in_err-value.ensures.read)

pub read_seq-loop-values-preserved : goal.read_seq-loop-values-preserved
read_seq-loop-values-preserved g t c =
    let vs : c.push-in-loop-values.new.self.items ≡ c.loop-values.values.items ++ c.in_ok-value.value ∷ [] = c.in_ok-push-2.ensures.items in
    let f = c.in_ok-value.ensures.further in
    let n = c.loop-values.invariant.0 in
    let read = outcome (form_of c.args.shape.now) in
    let more : n ≡ suc (n - 1) = more_steps (length c.args.scope.now.bytes.now) n c.loop-values.next c.in_ok-value.after c.loop-values.invariant.2 f.0 f.2 in
    rw vs (
      n - 1,
      c.loop-values.invariant.1 ∙ run_step read n c.args.pos c.loop-values.values.items c.in_ok-value.value c.args.scope.now.bytes.now
          c.args.scope.now.owner c.loop-values.stored c.read_shape-in-loop-values.new.stored c.loop-values.next c.in_ok-value.after c.args.scope.now.end
          (c.in_ok-goes_on.ensures.step ∙ ap gives c.if-branch.true) c.in_ok-value.ensures.read
          ∙ ap (λ m. with_front (views (c.loop-values.values.items ++ c.in_ok-value.value ∷ []))
          (run_outcome m read c.args.pos c.args.scope.now.bytes.now c.args.scope.now.owner c.read_shape-in-loop-values.new.stored c.in_ok-value.after
          c.args.scope.now.end)) more,
      omega (arith, f),
      omega (arith, f),
      omega (arith, f),
      omega (arith, f),
    )

pub read_seq-returns-clause-read : goal.read_seq-returns-clause-read
read_seq-returns-clause-read g t c =
    c.loop-values.invariant.1 ∙ run_done (outcome (form_of c.args.shape.now)) c.loop-values.invariant.0 c.args.pos c.loop-values.values.items
    c.args.scope.now.bytes.now c.args.scope.now.owner c.loop-values.stored c.loop-values.next c.args.scope.now.end (c.in_ok-goes_on.ensures.step
    ∙ ap gives c.if-branch.false)

pub read_shape-returns-in_err-all-in-Seq-clause-read : goal.read_shape-returns-in_err-all-in-Seq-clause-read
unfolding outcome
read_shape-returns-in_err-all-in-Seq-clause-read g t c =
    let p = err_from_is_err_and c.from_residual-in_err-all-in-Seq.result c.from_residual-in_err-all-in-Seq.ensures.1 in
    rw (p.1, p.2, c.in-Seq.is) (failure_then (seq_outcome (outcome (form_of c.in-Seq.inner.value)) c.args.scope.now.bytes.now c.args.scope.now.owner
    c.args.stored.now c.args.pos c.args.scope.now.end) _ _ (rw c.deref-in-Seq.ensures at c.in_err-all-in-Seq.ensures.read))

pub read_shape-returns-in_ok-all-in-Seq-clause-read : goal.read_shape-returns-in_ok-all-in-Seq-clause-read
unfolding outcome
read_shape-returns-in_ok-all-in-Seq-clause-read g t c =
    rw (c.in-Seq.is, view-Seq c.in_ok-all-in-Seq.all) (ap (mapped seq_value) (rw c.deref-in-Seq.ensures at c.in_ok-all-in-Seq.ensures.read))

pub read_shape-returns-in_err-fields-in-Struct-clause-read : goal.read_shape-returns-in_err-fields-in-Struct-clause-read
read_shape-returns-in_err-fields-in-Struct-clause-read g t c =
    let p = err_from_is_err_and c.from_residual-in_err-fields-in-Struct.result c.from_residual-in_err-fields-in-Struct.ensures.1 in
    rw (p.1, p.2, c.in-Struct.is, form_of-Struct c.in-Struct.name c.in-Struct.fields c.in-Struct.deny_unknown, struct_is)
    (failure_then (struct_outcome c.in-Struct.name.now (fields_of c.in-Struct.fields.items) c.in-Struct.deny_unknown
    (fields_outcome (fields_of c.in-Struct.fields.items)) c.args.scope.now.bytes.now c.args.scope.now.owner c.args.stored.now c.args.pos
    c.args.scope.now.end) _ _ (rw c.deref-in-Struct.ensures.value at c.in_err-fields-in-Struct.ensures.read))

pub read_shape-returns-in_ok-fields-in-Struct-clause-read : goal.read_shape-returns-in_ok-fields-in-Struct-clause-read
read_shape-returns-in_ok-fields-in-Struct-clause-read g t c = rw (
  c.in-Struct.is,
  form_of-Struct c.in-Struct.name c.in-Struct.fields c.in-Struct.deny_unknown,
  struct_is,
  view-Struct c.in-Struct.name c.in_ok-fields-in-Struct.fields,
)
    (ap (mapped (struct_value c.in-Struct.name.now)) (rw c.deref-in-Struct.ensures.value at c.in_ok-fields-in-Struct.ensures.read))

pub read_struct-returns-in-Err-clause-read : goal.read_struct-returns-in-Err-clause-read
unfolding struct_outcome
read_struct-returns-in-Err-clause-read g t c =
    let all = all_outcome (fields_of c.args.fields.now) c.args.deny (fields_outcome (fields_of c.args.fields.now)) c.args.scope.now.bytes.now
    (tag_at c.args.scope.now.bytes.now c.args.pos) c.args.stored.now (c.args.pos + 8) c.in_ok-stop.stop in
    rw c.in_ok-stop.ensures.step (failure_then (within (tag_at c.args.scope.now.bytes.now c.args.pos) all) _ c.within.result
    (rw c.tag_at-owner.ensures at (c.within.ensures.list all (rw c.tag_at-owner.ensures at c.in-Err.ensures.read))))

pub read_shape-returns-in-Enum-clause-read : goal.read_shape-returns-in-Enum-clause-read
read_shape-returns-in-Enum-clause-read g t c =
    rw (c.in-Enum.is, form_of-Enum c.in-Enum.name c.in-Enum.variants, enum_is) (rw c.deref.ensures.value at c.read_enum.ensures.read)

pub read_enum-returns-in-Some-clause-read : goal.read_enum-returns-in-Some-clause-read
read_enum-returns-in-Some-clause-read g t c =
    let v = c.index-variants-i.result in
    let lt = rw c.in-Some.is at c.in_ok-index.ensures.inside in
    let by_rule = rw c.in-Some.is at c.in_ok-index.ensures.step in
    rw (enum_chosen c.args.name.now c.args.variants.now c.in-Some.i v c.in_ok-typ.typ c.args.scope.now.bytes.now c.args.scope.now.owner c.args.stored.now
    c.args.pos c.args.scope.now.end c.in_ok-typ.ensures.step by_rule lt c.index-variants-i.is) c.read_variant.ensures.read

pub read_tuple-returns-in_err-inside-clause-read : goal.read_tuple-returns-in_err-inside-clause-read
read_tuple-returns-in_err-inside-clause-read g t c =
    let p = err_from_is_err_and c.from_residual-in_err-inside.result c.from_residual-in_err-inside.ensures.1 in
    rw (p.1, p.2) (tuple_fails c.args.typ (forms_outcome (forms_of c.args.shapes.now)) (views c.in_ok-values.values.items) c.args.scope.now.bytes.now
    c.args.scope.now.owner c.args.stored.now c.read_parts.new.stored c.args.pos c.args.scope.now.end c.in_ok-n.n c.in_ok-values.next
    c.in_err-inside.field-0.0 c.in_ok-structure_wanted.ensures.step c.in_ok-n.ensures.step c.in_ok-values.ensures.read c.if-next-stop.false
    c.in_err-inside.ensures.step)

pub read_tuple-returns-then-next-stop-clause-read : goal.read_tuple-returns-then-next-stop-clause-read
read_tuple-returns-then-next-stop-clause-read g t c =
    tuple_surplus c.args.typ (forms_outcome (forms_of c.args.shapes.now)) (views c.in_ok-values.values.items) c.args.scope.now.bytes.now c.args.scope.now.owner
    c.args.stored.now c.read_parts.new.stored c.args.pos c.args.scope.now.end c.in_ok-n.n c.in_ok-values.next c.in_struct.result
    c.in_ok-structure_wanted.ensures.step c.in_ok-n.ensures.step c.in_ok-values.ensures.read c.if-next-stop.true c.in_struct.ensures

pub read_tuple-returns-clause-read : goal.read_tuple-returns-clause-read
read_tuple-returns-clause-read g t c =
    tuple_done c.args.typ (forms_outcome (forms_of c.args.shapes.now)) (views c.in_ok-values.values.items) c.args.scope.now.bytes.now c.args.scope.now.owner
    c.args.stored.now c.read_parts.new.stored c.args.pos c.args.scope.now.end c.in_ok-n.n c.in_ok-values.next c.in_ok-structure_wanted.ensures.step
    c.in_ok-n.ensures.step c.in_ok-values.ensures.read c.if-next-stop.false c.in_ok-inside.ensures.step

pub read_variant-returns-in_err-fields-in-Tuple-clause-read : goal.read_variant-returns-in_err-fields-in-Tuple-clause-read
read_variant-returns-in_err-fields-in-Tuple-clause-read g t c =
    let p = err_from_is_err_and c.from_residual-in_err-fields-in-Tuple.result c.from_residual-in_err-fields-in-Tuple.ensures.1 in
    let is : content_of c.args.shape.now.content ≡ tuple (forms_of c.in-Tuple.shapes.items) = ap content_of c.in-Tuple.is
    ∙ content_of-Tuple c.in-Tuple.shapes in
    rw (p.1, p.2, is, content_is) (failure_then (tuple_outcome c.args.typ (forms_outcome (forms_of c.in-Tuple.shapes.items)) c.args.scope.now.bytes.now
    c.args.scope.now.owner c.args.stored.now c.args.pos c.args.scope.now.end) _ _
    (rw c.deref-in-Tuple.ensures.value at c.in_err-fields-in-Tuple.ensures.read))

pub read_variant-returns-in_ok-fields-in-Tuple-clause-read : goal.read_variant-returns-in_ok-fields-in-Tuple-clause-read
read_variant-returns-in_ok-fields-in-Tuple-clause-read g t c =
    let is : content_of c.args.shape.now.content ≡ tuple (forms_of c.in-Tuple.shapes.items) = ap content_of c.in-Tuple.is
    ∙ content_of-Tuple c.in-Tuple.shapes in
    rw (is, content_is, view-TupleVariant c.args.name c.args.shape.now.name c.in_ok-fields-in-Tuple.fields)
    (ap (mapped (tuple_variant_value c.args.name.now c.args.shape.now.name.now))
    (rw c.deref-in-Tuple.ensures.value at c.in_ok-fields-in-Tuple.ensures.read))
