use Rattle.kmip_ttlv_ser.proofs.Sound.{distinct}
use Rattle.kmip_ttlv_ser.proofs.laws.equal_bytes_have_equal_items.Goals as goal

pub returns : goal.returns
returns c = distinct
