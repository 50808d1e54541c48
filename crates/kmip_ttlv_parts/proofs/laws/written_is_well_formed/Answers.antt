use Rattle.kmip_ttlv_parts.proofs.Canonical as lemmas
use Rattle.kmip_ttlv_parts.proofs.laws.written_is_well_formed.Goals as goal

pub returns : goal.returns
returns c = lemmas.written_is_well_formed
