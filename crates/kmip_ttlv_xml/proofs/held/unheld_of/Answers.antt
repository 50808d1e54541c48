use Rattle.std.proofs.Common.{rules, ◌≡◌, ◌∙◌, ◌<◌, ◌^◌, length, sym, arith}
use Rattle.kmip_ttlv_types.specs.declared.typ.TtlvType.TheVariants.{TextString}
use Rattle.kmip_ttlv_xml.proofs.Holding.{text_utf8, text_fits}
use Rattle.kmip_ttlv_xml.proofs.held.unheld_of.Goals as goal

pub from_utf8_unchecked-text-requires : goal.from_utf8_unchecked-text-requires
from_utf8_unchecked-text-requires g c =
    let is : c.args.item.now.typ ≡ TextString = search rules in
    text_utf8 c.args.item.now.typ c.content_of.result.now is c.content_of.ensures.valid

pub overflow_add-result-in-Some : goal.overflow_add-result-in-Some
overflow_add-result-in-Some g c =
    let is : c.args.item.now.typ ≡ TextString = search rules in
    let long : length c.args.message.now < 2 ^ 64 = search rules in
    let found = rw (c.from_utf8_unchecked-text.ensures, c.content_of.ensures.is) at (sym c.in_ok-offset.ensures ∙ c.in-Some.is) in
    let fits = text_fits c.args.message.now c.args.item.now _ c.in-Some.offset c.requires is found in
    omega (arith, long, fits)
