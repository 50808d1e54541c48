use Rattle.kmip_ttlv_types.proofs.ReadBack.{read_back}
use Rattle.kmip_ttlv_types.proofs.laws.what_was_written_is_read_back.Goals as goal

pub returns : goal.returns
returns g c = read_back g.T.HasTtlvType.TTLV_TYPE g.T.SerializableTtlvType.value_bytes g.T.SerializableTtlvType.takes_memory c.args.value.now
    (g.met.T.SerializableTtlvType.bytes_are_valid c.args.value.now)
