use Rattle.std.proofs.Common.{◌≡◌, suc, ◌-◌, length, ap, ◌∙◌, arith, refl}
use Rattle.std.proofs.lemmas.{Result.err_from_is_err_and, Bool.lt-ltb, Bool.le-ltb}
use Rattle.kmip_ttlv_reader.specs.Outcomes.{rest_outcome}
use Rattle.kmip_ttlv_reader.proofs.Loops.{rest_step, rest_fails, rest_done, more_steps}
use Rattle.kmip_ttlv_kinds.proofs.reading.read_rest.Goals as goal

pub loop-next-init : goal.loop-next-init
loop-next-init g c = (length c.args.scope.now.bytes.now, refl, omega arith, omega arith, omega arith)

pub returns-in_err-next-clause-step : goal.returns-in_err-next-clause-step
returns-in_err-next-clause-step g c =
    let p = err_from_is_err_and c.from_residual.result c.from_residual.ensures.1 in
    rw (p.1, p.2, c.loop-next.invariant.1) (rest_fails c.loop-next.invariant.0 g.L.PartList.fields c.args.closed
    c.args.scope.now.bytes.now c.args.scope.now.owner c.loop-next.next c.args.scope.now.end c.in_err-next.field-0.0
    (lt-ltb c.loop-next.next c.args.scope.now.end c.loop-next-test.true) c.in_err-next.ensures.step)

pub loop-next-preserved : goal.loop-next-preserved
loop-next-preserved g c =
    let f = c.in_ok-next.ensures.further in
    let n = c.loop-next.invariant.0 in
    let more : n ≡ suc (n - 1) = more_steps (length c.args.scope.now.bytes.now) n c.loop-next.next c.in_ok-next.next c.loop-next.invariant.2 f.0 f.2 in (
      n - 1,
      c.loop-next.invariant.1 ∙ rest_step n g.L.PartList.fields c.args.closed c.args.scope.now.bytes.now c.args.scope.now.owner
          c.loop-next.next c.in_ok-next.next c.args.scope.now.end (lt-ltb c.loop-next.next c.args.scope.now.end c.loop-next-test.true) c.in_ok-next.ensures.step
          ∙ ap (λ m. rest_outcome m g.L.PartList.fields c.args.closed c.args.scope.now.bytes.now c.args.scope.now.owner
          c.in_ok-next.next c.args.scope.now.end) more,
      omega (arith, f),
      omega (arith, f),
      omega (arith, f),
    )

pub returns-clause-step : goal.returns-clause-step
returns-clause-step g c =
    c.loop-next.invariant.1 ∙ rest_done c.loop-next.invariant.0 g.L.PartList.fields c.args.closed c.args.scope.now.bytes.now
    c.args.scope.now.owner c.loop-next.next c.args.scope.now.end (le-ltb c.loop-next.next c.args.scope.now.end c.loop-next-test.false)
