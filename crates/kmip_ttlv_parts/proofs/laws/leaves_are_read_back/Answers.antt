use Rattle.kmip_ttlv_parts.proofs.Returns as lemmas
use Rattle.kmip_ttlv_parts.proofs.laws.leaves_are_read_back.Goals as goal

pub returns : goal.returns
returns c = lemmas.leaves_come_back
