use Rattle.std.proofs.Common.{List, ℕ, Option, ap, ◌∙◌}
use Rattle.kmip_ttlv_c.specs.NameTexts.{name_by, value_in, value_name}
use Rattle.kmip_ttlv_c.proofs.NamedAs.{named_as}
use Rattle.kmip_ttlv_c.proofs.names.kmip_ttlv_value_name.Goals as goal

pub returns : goal.returns
unfolding value_name
returns c =
    let list = c.name_by.ensures ∙ ap (λ (names : ℕ → Option (List ℕ)). name_by names c.args.tag) c.in-Ok.ensures.names in
    named_as _ _ _ _ _ _ (c.value_in.ensures ∙ ap (λ (l : Option (List ℕ)). value_in l c.args.value) list) c.offer_name.ensures
