use Rattle.std.proofs.Common.{◌<◌, [], ◌∷◌, ◌++◌, ap, length, map, rules, sym, ◌∙◌}
use Rattle.std.proofs.lemmas.List.{take_all}
use Rattle.kmip_operations.specs.Listing.{saying_of}
use Rattle.kmip_operations.specs.Showing.{names_of}
use Rattle.kmip_operations.proofs.Mapped.{names_more}
use Rattle.kmip_operations.proofs.showing.first_names.Goals as goal

pub loop-attribute-preserved : goal.loop-attribute-preserved
loop-attribute-preserved g c =
    let within : c.loop-attribute.attribute-index < length c.args.attributes.now = search rules in
    c.in_ok-push_first.ensures ∙ ap (λ l. l ++ names_of (saying_of c.attribute-item.result ∷ [])) c.loop-attribute.invariant
    ∙ sym (names_more c.args.attributes.now c.loop-attribute.attribute-index c.attribute-item.result within c.attribute-item.is)

pub returns : goal.returns
returns g c =
    c.loop-attribute.invariant
    ∙ ap (λ l. names_of (map saying_of l)) (take_all c.loop-attribute.attribute-index c.args.attributes.now (search rules))
