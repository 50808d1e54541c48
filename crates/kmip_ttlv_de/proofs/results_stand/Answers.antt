use Rattle.kmip_ttlv_reader.proofs.Standing.{root_stands}
use Rattle.kmip_ttlv_de.proofs.results_stand.Goals as goal

pub returns : goal.returns
returns c = root_stands
