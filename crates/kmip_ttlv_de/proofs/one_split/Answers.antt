use Rattle.kmip_ttlv_types.proofs.PlaceLemmas.{splits_one}
use Rattle.kmip_ttlv_de.proofs.one_split.Goals as goal

pub returns : goal.returns
returns c = splits_one
