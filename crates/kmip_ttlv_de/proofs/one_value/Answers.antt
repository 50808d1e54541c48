use Rattle.kmip_ttlv_reader.proofs.Giving.{begins_one}
use Rattle.kmip_ttlv_de.proofs.one_value.Goals as goal

pub returns : goal.returns
returns c = begins_one
