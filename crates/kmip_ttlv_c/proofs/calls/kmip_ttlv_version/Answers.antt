use Rattle.kmip_ttlv_c.specs.Buffers.{offers}
use Rattle.kmip_ttlv_c.proofs.calls.kmip_ttlv_version.Goals as goal

pub returns : goal.returns
returns c = offers c.as_bytes.result.now c.as_bytes.ensures.value c.offer.ensures
