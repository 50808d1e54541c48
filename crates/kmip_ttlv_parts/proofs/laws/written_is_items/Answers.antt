use Rattle.kmip_ttlv_parts.proofs.Contents as lemmas
use Rattle.kmip_ttlv_parts.proofs.laws.written_is_items.Goals as goal

pub returns : goal.returns
returns c = lemmas.written_is_items
