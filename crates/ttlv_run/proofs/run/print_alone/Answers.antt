use Rattle.std.proofs.{Common.inr, Common.refl, lemmas.Result.err_from_is_err_and}
use Rattle.ttlv_run.proofs.Inputs.{line_lost}
use Rattle.ttlv_run.proofs.run.print_alone.Goals as goal

-- out of memory for the line on the errors, behind the whole text
pub returns-in_err-line : goal.returns-in_err-line
returns-in_err-line g c = λ known h.
    let y = err_from_is_err_and c.from_residual-in_err-line.result c.from_residual-in_err-line.ensures.1 in
    let found = rw c.in-Some.is at (c.in_ok-place.ensures known h) in
    rw (y.1, y.2) (inr (line_lost found), refl)
