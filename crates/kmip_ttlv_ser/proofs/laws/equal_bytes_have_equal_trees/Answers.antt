use Rattle.kmip_ttlv_ser.proofs.Receiving.{all_same}
use Rattle.kmip_ttlv_ser.proofs.laws.equal_bytes_have_equal_trees.Goals as goal

pub returns : goal.returns
returns c = all_same
