use Rattle.kmip_ttlv_types.proofs.InMemory.{headers_read}
use Rattle.kmip_ttlv_types.proofs.laws.headers_in_memory_are_read.Goals as goal

pub returns : goal.returns
returns c = headers_read
