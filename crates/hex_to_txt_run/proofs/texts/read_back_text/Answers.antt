use Rattle.std.proofs.Common.{◌∙◌, ap, refl}
use Rattle.kmip_ttlv.specs.Printers.{names_of, prefix_of}
use Rattle.hex_to_txt_run.proofs.Printing.{prints_undiag, then_line_feed}
use Rattle.hex_to_txt_run.proofs.texts.read_back_text.Goals as goal

pub returns : goal.returns
returns g c =
    let same = c.with_tag_prefix.follows.holds-at-none in
    let none = ap names_of same ∙ c.with_tag_prefix.ensures.names ∙ c.new-printer.ensures.names in
    let prefix = ap prefix_of same ∙ c.with_tag_prefix.ensures.prefix ∙ c.in_ok-from_str.ensures.ok in
    record {
      diagnostic = c.in-Some.diagnostic.now;
      cut = c.in-Some.ensures.some;
      prints = then_line_feed _ _ _ _ c.in_ok-with_line_feed.ensures refl (prints_undiag _ _ _ _ _ none prefix c.in_ok-text.ensures.undiag);
    }
