use Rattle.kmip_ttlv_parts.proofs.Canonical as lemmas
use Rattle.kmip_ttlv_parts.proofs.laws.canonical_is_text.Goals as goal

pub returns : goal.returns
returns c = lemmas.canonical_is_text
