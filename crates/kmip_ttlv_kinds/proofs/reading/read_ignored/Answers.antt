use Rattle.std.proofs.Common.{◌≡◌, true, sym, ◌∙◌, rules}
use Rattle.std.proofs.lemmas.Result.{err_from_is_err_and}
use Rattle.kmip_ttlv_reader.specs.{Reads.has_fields, Outcomes.ignored, Outcomes.item_end}
use Rattle.kmip_ttlv_reader.proofs.Steps.{failure_then}
use Rattle.kmip_ttlv_kinds.proofs.reading.read_ignored.Goals as goal

pub returns-in_err-next-clause-step : goal.returns-in_err-next-clause-step
unfolding ignored
returns-in_err-next-clause-step g c =
    let p = err_from_is_err_and c.from_residual-in_err-next.result c.from_residual-in_err-next.ensures.1 in
    let some : has_fields g.L.PartList.fields ≡ true = search rules in
    let other = rw c.tag_at.ensures at (sym c.is_part.ensures ∙ c.if-is_part.false) in
    rw (p.1, p.2, c.in_ok-typ.ensures.step, some, other, c.if-closed.false)
    (failure_then (item_end c.args.scope.now.bytes.now c.args.pos c.in_ok-typ.typ) _ _ c.in_err-next.ensures.step)
