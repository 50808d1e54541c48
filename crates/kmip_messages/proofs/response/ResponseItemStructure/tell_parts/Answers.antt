-- Written by codegen from types.table: change that, and run codegen/codegen.
-- What it answers, by what it holds.
use Rattle.std.proofs.Common.{◌≡◌, Err, Result, subst, sym}
use Rattle.std.specs.Prelude.{OnOk}
use Rattle.std.proofs.lemmas.Result.{err_from_is_err_and}
use Rattle.kmip_messages.proofs.response.ResponseItemStructure.tell_parts.Goals as goal

-- of an error nothing is told
not_told : {T E : Type 0} (P : Type 0) (r : Result T E) (e : E) → r ≡ Err e → OnOk r P
not_told P r e is = subst (λ x. OnOk x P) (sym is) tt

pub returns-in_err-four-clause-told : goal.returns-in_err-four-clause-told
returns-in_err-four-clause-told g c =
    let p = err_from_is_err_and c.from_residual.result c.from_residual.ensures.1 in
    not_told _ c.from_residual.result p.0 p.1

pub returns-in_err-four-2-clause-told : goal.returns-in_err-four-2-clause-told
returns-in_err-four-2-clause-told g c =
    let p = err_from_is_err_and c.from_residual-in_err-four-2.result c.from_residual-in_err-four-2.ensures.1 in
    not_told _ c.from_residual-in_err-four-2.result p.0 p.1

pub returns-clause-told : goal.returns-clause-told
returns-clause-told g c = g.W.Walk.steps.checked _ _ _ _ _ (g.W.Walk.steps.behind _ _ _ _ _ c.in_ok-four.ensures.told c.in_ok-four-2.ensures.told) c.check.ensures
