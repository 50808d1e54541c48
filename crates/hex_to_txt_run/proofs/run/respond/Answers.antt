use Rattle.std.proofs.Common.{sym, subst, List, ℕ}
use Rattle.std.proofs.{lemmas.Result.err_from_is_err_and, KnownBytes.Keeps-refl}
use Rattle.hex_to_txt_run.specs.{Inputs.TakesAll, Reasons.reason_of}
use Rattle.hex_to_txt_run.proofs.Ends.{returned}
use Rattle.hex_to_txt_run.proofs.run.respond.Goals as goal

pub returns-in_err-text : goal.returns-in_err-text
returns-in_err-text g c =
    let y = err_from_is_err_and c.from_residual-in_err-text.result c.from_residual-in_err-text.ensures.1 in
    let P : List ℕ → Type 0 = λ l. TakesAll (g.I.Source.left c.args.input.now) (g.I.Source.left c.read_all.new.input) l in
    let taken = subst P (sym c.as_slice.ensures.value) c.in_ok-bytes.ensures.ok in
    returned reason_of _ _ _ _ y.0 c.as_slice.result.now c.from_residual-in_err-text.result y.1 y.2 c.in-Some.ensures taken c.in_err-text.ensures (Keeps-refl _)
