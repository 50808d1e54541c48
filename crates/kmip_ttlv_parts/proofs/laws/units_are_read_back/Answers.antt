use Rattle.kmip_ttlv_parts.proofs.Returns as lemmas
use Rattle.kmip_ttlv_parts.proofs.laws.units_are_read_back.Goals as goal

pub returns : goal.returns
returns c = lemmas.units_come_back
