use Rattle.std.proofs.Common.{◌∙◌}
use Rattle.kmip_ttlv_xml.proofs.Parsing.{parsed}
use Rattle.kmip_ttlv_xml.proofs.decimal.size_of.Goals as goal

pub returns : goal.returns
unfolding lib.Utf8.encode
returns c = c.ok.ensures.value ∙ parsed c.args.digits.now c.parse.result c.parse.ensures.value.0 c.if-starts_with.ensures.cases
