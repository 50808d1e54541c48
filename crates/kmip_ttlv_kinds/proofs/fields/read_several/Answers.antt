use Rattle.std.proofs.Common.{◌≡◌, ◌<◌, List, suc, ◌-◌, length, ◌∷◌, ◌++◌, [], lit<, ap, ◌∙◌, arith, refl}
use Rattle.std.proofs.lemmas.Result.{err_from_is_err_and}
use Rattle.kmip_ttlv_reader.specs.{Steps.gives, Spots.values_by}
use Rattle.kmip_ttlv_reader.specs.Outcomes.{outcome, run_outcome, seq_outcome}
use Rattle.kmip_ttlv_reader.proofs.{Steps.failure_then, Loops.with_front, Loops.more_steps}
use Rattle.kmip_ttlv_kinds.proofs.Items.{item_step, item_fails, item_stops, items_done}
use Rattle.kmip_ttlv_kinds.proofs.fields.read_several.Goals as goal

longer : {T : Type 0} (xs : List T) (x : T) → 0 < length (xs ++ x ∷ [])
longer [] x = lit< tt
longer (y ∷ xs) x = omega arith

pub returns-in_err-value-clause-read : goal.returns-in_err-value-clause-read
unfolding seq_outcome
returns-in_err-value-clause-read g c =
    let p = err_from_is_err_and c.from_residual.result c.from_residual.ensures.1 in
    rw (p.1, p.2) (failure_then (outcome g.E.Element.form c.args.scope.now.bytes.now c.args.scope.now.owner c.args.cursor.now.stored c.args.cursor.now.pos
    c.args.scope.now.end) _ _ c.in_err-value.ensures.read)

pub loop-values-init : goal.loop-values-init
unfolding seq_outcome
loop-values-init g c =
    let vs : c.push.new.self.items ≡ c.in_ok-value.value ∷ [] = c.in_ok-push.ensures.items
    ∙ ap (λ l. l ++ c.in_ok-value.value ∷ []) c.new-values.ensures.items in
    let f = c.in_ok-value.ensures.further in
    let w = c.in_ok-value.ensures.within in (
      length c.args.scope.now.bytes.now,
      rw (vs, c.in_ok-value.ensures.read) refl,
      omega (arith, f),
      omega (arith, f),
      omega (arith, w),
      omega (arith, w),
      rw vs (lit< tt),
    )

pub returns-in_err-goes_on-clause-read : goal.returns-in_err-goes_on-clause-read
returns-in_err-goes_on-clause-read g c =
    let e = g.E.Element in
    let p = err_from_is_err_and c.from_residual-in_err-goes_on.result c.from_residual-in_err-goes_on.ensures.1 in
    let stops = rw (c.pos-first.ensures, c.pos.ensures) at c.in_err-goes_on.ensures.step in
    rw (p.1, p.2, c.loop-values.invariant.1) (item_stops (values_by e.value c.loop-values.values.items) (outcome e.form) c.loop-values.invariant.0
    c.args.cursor.now.pos c.args.scope.now.bytes.now c.args.scope.now.owner c.loop-values.cursor.stored c.loop-values.cursor.pos c.args.scope.now.end
    c.in_err-goes_on.field-0.0 stops)

pub returns-in_err-value-2-clause-read : goal.returns-in_err-value-2-clause-read
returns-in_err-value-2-clause-read g c =
    let e = g.E.Element in
    let p = err_from_is_err_and c.from_residual-in_err-value-2.result c.from_residual-in_err-value-2.ensures.1 in
    let goes = rw (c.pos-first.ensures, c.pos.ensures) at c.in_ok-goes_on.ensures.step ∙ ap gives c.if-branch.true in
    rw (p.1, p.2, c.loop-values.invariant.1) (item_fails (values_by e.value c.loop-values.values.items) (outcome e.form) c.loop-values.invariant.0
    c.args.cursor.now.pos c.args.scope.now.bytes.now c.args.scope.now.owner c.loop-values.cursor.stored c.loop-values.cursor.pos c.args.scope.now.end
    c.in_err-value-2.field-0.0 goes c.in_err-value-2.ensures.read)

pub loop-values-preserved : goal.loop-values-preserved
loop-values-preserved g c =
    let e = g.E.Element in
    let read = outcome e.form in
    let vs : c.push-in-loop-values.new.self.items ≡ c.loop-values.values.items ++ c.in_ok-value-2.value ∷ [] = c.in_ok-push-2.ensures.items in
    let f = c.in_ok-value-2.ensures.further in
    let w = c.in_ok-value-2.ensures.within in
    let n = c.loop-values.invariant.0 in
    let new = c.read_one-in-loop-values.new.cursor in
    let goes = rw (c.pos-first.ensures, c.pos.ensures) at c.in_ok-goes_on.ensures.step ∙ ap gives c.if-branch.true in
    let more : n ≡ suc (n - 1) = more_steps (length c.args.scope.now.bytes.now) n c.loop-values.cursor.pos new.pos c.loop-values.invariant.2 f w.1 in
    let step = item_step e.value read n c.args.cursor.now.pos c.loop-values.values.items c.in_ok-value-2.value c.args.scope.now.bytes.now c.args.scope.now.owner
    c.loop-values.cursor.stored new.stored c.loop-values.cursor.pos new.pos c.args.scope.now.end goes c.in_ok-value-2.ensures.read in
    let fewer = ap (λ m. with_front (values_by e.value (c.loop-values.values.items ++ c.in_ok-value-2.value ∷ []))
    (run_outcome m read c.args.cursor.now.pos c.args.scope.now.bytes.now c.args.scope.now.owner new.stored new.pos c.args.scope.now.end)) more in
    rw vs (
      n - 1,
      c.loop-values.invariant.1 ∙ step ∙ fewer,
      omega (arith, f),
      omega (arith, f),
      omega (arith, w),
      omega (arith, w),
      longer c.loop-values.values.items c.in_ok-value-2.value,
    )

pub returns-clause-read : goal.returns-clause-read
returns-clause-read g c =
    let e = g.E.Element in
    let done = rw (c.pos-first.ensures, c.pos.ensures) at c.in_ok-goes_on.ensures.step ∙ ap gives c.if-branch.false in
    c.loop-values.invariant.1 ∙ items_done (values_by e.value c.loop-values.values.items) (outcome e.form) c.loop-values.invariant.0 c.args.cursor.now.pos
    c.args.scope.now.bytes.now c.args.scope.now.owner c.loop-values.cursor.stored c.loop-values.cursor.pos c.args.scope.now.end done
