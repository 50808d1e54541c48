use Rattle.std.proofs.Common.{ap, ◌∙◌}
use Rattle.std.proofs.lemmas.Result.{on_ok_weaker}
use Rattle.kmip_ttlv_base.specs.Visits.{around, ended}
use Rattle.kmip_ttlv_base.proofs.TagNames.{transparent_wrapper}
use Rattle.kmip_ttlv_ser.specs.Singles.{writing, left_group, left_newtype, single_step}
use Rattle.kmip_ttlv_ser.proofs.single.SingleVisitor.end.Goals as goal

pub returns-in-Tagged-clause-received : goal.returns-in-Tagged-clause-received
returns-in-Tagged-clause-received c =
    let now = writing c.args.self.now in
    on_ok_weaker c.unwrap.result (λ unwrapped s is. ap (single_step (ended (around c.args.group))) is
    ∙ ap (λ g. left_group (around g) now) c.in-Tagged.is
    ∙ ap (λ o. left_newtype o now) (transparent_wrapper c.in-Tagged.tag) ∙ unwrapped) c.unwrap.ensures
