use Rattle.kmip_ttlv_xml.proofs.Holding.{text_utf8}
use Rattle.kmip_ttlv_xml.proofs.text.push_content.Goals as goal

pub from_utf8_unchecked-requires : goal.from_utf8_unchecked-requires
from_utf8_unchecked-requires g c = text_utf8 c.args.typ c.args.content.now c.in-TextString.is c.requires
