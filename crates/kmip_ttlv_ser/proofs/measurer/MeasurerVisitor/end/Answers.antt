use Rattle.std.proofs.Common.{◌≡◌, None, ap, sym, ◌∙◌, rules}
use Rattle.kmip_ttlv_base.specs.Visits.{around, ended}
use Rattle.kmip_ttlv_base.proofs.TagNames.{transparent_wrapper}
use Rattle.kmip_ttlv_ser.specs.Measures.{going, known_by, out_of_group, out_of_newtype, measure_step}
use Rattle.kmip_ttlv_ser.proofs.measurer.MeasurerVisitor.end.Goals as goal

pub returns-in-Tagged-clause-received : goal.returns-in-Tagged-clause-received
returns-in-Tagged-clause-received g c = λ s is.
    let old = going c.args.self.now in
    let no_error : c.args.self.now.encode_error ≡ None = search rules in
    ap (measure_step (ended (around c.args.group))) (is ∙ ap (λ e. known_by e old) no_error)
    ∙ ap (λ a. out_of_group (around a) old) c.in-Tagged.is
    ∙ ap (λ o. out_of_newtype o old) (transparent_wrapper c.in-Tagged.tag) ∙ sym c.unwrap.ensures
