use Rattle.std.proofs.Common.{List, ℕ, Option, ap, ◌∙◌}
use Rattle.kmip_ttlv_c.specs.NameTexts.{name_by, tag_name}
use Rattle.kmip_ttlv_c.proofs.NamedAs.{named_as}
use Rattle.kmip_ttlv_c.proofs.names.kmip_ttlv_tag_name.Goals as goal

pub returns : goal.returns
unfolding tag_name
returns c = named_as _ _ _ _ _ _
    (c.name_by.ensures ∙ ap (λ (names : ℕ → Option (List ℕ)). name_by names c.args.tag) c.in-Ok.ensures.names) c.offer_name.ensures
