use Rattle.std.proofs.Common.{◌≡◌, ap, sym, ◌∙◌, Some}
use Rattle.std.specs.Option.{option_copied}
use Rattle.kmip_ttlv_reader.specs.TagValues.{last}
use Rattle.kmip_ttlv_reader.proofs.PartLemmas.{is_wanted}
use Rattle.kmip_ttlv_reader.proofs.rules.is_stored.Goals as goal

pub returns-in-Some : goal.returns-in-Some
returns-in-Some g c =
    let text = c.in-Some.text.now in
    let stored : Some text ≡ last c.args.stored.now c.args.tag = ap option_copied (sym c.in-Some.is) ∙ c.last_under.ensures in
    c.is_among.ensures ∙ is_wanted c.args.stored.now c.args.tag c.args.texts.now text stored
