use Rattle.kmip_ttlv_types.proofs.ReadBack.{whole_leaves}
use Rattle.kmip_ttlv_types.proofs.laws.a_whole_leaf_in_memory_is_read.Goals as goal

pub returns : goal.returns
returns g c = whole_leaves g.T.HasTtlvType.TTLV_TYPE g.T.SerializableTtlvType.value_bytes g.T.SerializableTtlvType.takes_memory
