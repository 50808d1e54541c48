use Rattle.kmip_ttlv_parts.proofs.Roots as roots
use Rattle.kmip_ttlv_parts.proofs.laws.padding_is_free.Goals as goal

pub returns : goal.returns
returns c = roots.padding_is_free
