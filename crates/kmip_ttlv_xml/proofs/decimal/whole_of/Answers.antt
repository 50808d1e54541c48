use Rattle.std.proofs.Common.{◌∙◌, ap, false}
use Rattle.kmip_ttlv_xml.specs.Decimals.{signed}
use Rattle.kmip_ttlv_xml.proofs.Parsing.{without_minus}
use Rattle.kmip_ttlv_xml.proofs.decimal.whole_of.Goals as goal

pub returns-in-None : goal.returns-in-None
unfolding lib.Utf8.encode
returns-in-None c = c.signed-in-None.ensures ∙ ap (signed false) c.size_of-in-None.ensures ∙ without_minus c.args.text.now c.in-None.ensures.cases
