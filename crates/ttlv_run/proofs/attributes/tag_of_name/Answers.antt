use Rattle.std.proofs.Common.{◌≡◌, ◌∙◌, ◌≢◌, true, ap, subst}
use Rattle.std.proofs.lemmas.Str.{IsUtf8-from_is_utf8}
use Rattle.kmip_ttlv_types.specs.declared.typ.TtlvType.{TtlvType}
use Rattle.kmip_ttlv_types.specs.declared.typ.TtlvType.TheVariants.{Structure}
use Rattle.kmip_ttlv_types.specs.Leaves.{is_valid}
use Rattle.kmip_ttlv_items.specs.ItemWalks.{content_at}
use Rattle.kmip_ttlv_names.specs.NameTables.{tag_in}
use Rattle.ttlv_run.proofs.Parts.{content_is}
use Rattle.ttlv_run.proofs.attributes.tag_of_name.Goals as goal

pub from_utf8_unchecked-name-requires : goal.from_utf8_unchecked-name-requires
from_utf8_unchecked-name-requires g c =
    let i = c.args.item.now in
    let bytes = c.args.bytes.now in
    let leaf : i.typ ≢ Structure = λ is. absurd (let text = c.requires.text in cc) in
    let valid = subst (λ (t : TtlvType). is_valid t (content_at bytes i.offset) ≡ true) c.requires.text (c.requires.good.valid leaf) in
    IsUtf8-from_is_utf8 _ (rw (content_is bytes i c.requires.good.len) valid)

pub returns : goal.returns
returns g c =
    c.copied.ensures ∙ c.get.ensures.value
    ∙ ap (tag_in c.args.names.now.by_name) (c.from_utf8_unchecked-name.ensures ∙ content_is c.args.bytes.now c.args.item.now c.requires.good.len)
