use Rattle.std.proofs.Common.{subst}
use Rattle.std.proofs.lemmas.Result.{err_from_is_err_and}
use Rattle.kmip_ttlv_types.specs.Held.{held, Says}
use Rattle.ttlv_run.specs.Tools.{no_tags, no_secrets}
use Rattle.ttlv_run.proofs.tool.tables_of.Goals as goal

pub returns-in_err-tags-clause-err : goal.returns-in_err-tags-clause-err
returns-in_err-tags-clause-err g c =
    let y = err_from_is_err_and c.from_residual.result c.from_residual.ensures.1 in
    let h = c.in_err-tags.ensures.err in
    rw (y.1, y.2) (h.0, no_tags h.1, h.2)

pub returns-in_err-secret-clause-err : goal.returns-in_err-secret-clause-err
returns-in_err-secret-clause-err g c =
    let y = err_from_is_err_and c.from_residual-in_err-secret.result c.from_residual-in_err-secret.ensures.1 in
    let h = c.in_err-secret.ensures.err in
    let of = held g.E.Sink.emitted g.E.Sink.room in
    rw (y.1, y.2) (
      h.0,
      no_secrets _ _ c.in_ok-tags.ensures.ok h.1,
      subst (λ e. Says (of e) (of c.table-2.new.errors) h.0) c.in_ok-tags.ensures.quiet h.2,
    )
