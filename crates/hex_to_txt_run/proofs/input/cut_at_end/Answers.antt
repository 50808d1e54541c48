use Rattle.std.proofs.Common.{◌∙◌, arith, sym}
use Rattle.hex_to_txt_run.proofs.{Cuts.cut, input.cut_at_end.Goals.then-loop-end-test+else-is_break, input.cut_at_end.Goals.else-loop-end-test}
use Rattle.hex_to_txt_run.proofs.input.cut_at_end.Goals as goal

pub returns : goal.returns
returns c =
    cut c.args.bytes.now c.loop-end.end c.loop-end.invariant.0 c.loop-end.invariant.1 (λ some. elim c.loop-end-test.branch [
      | then-loop-end-test+else-is_break w ↦ sym w.is_break.ensures ∙ w.if-is_break.false
      | else-loop-end-test w ↦ absurd (omega (arith, some, w.loop-end-test.false))
    ])
