use Rattle.kmip_ttlv_write.proofs.Uniques.{one_text}
use Rattle.kmip_ttlv_write.proofs.laws.items_have_one_text.Goals as goal

pub returns : goal.returns
returns c = one_text
