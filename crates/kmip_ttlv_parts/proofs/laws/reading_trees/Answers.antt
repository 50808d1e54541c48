use Rattle.kmip_ttlv_parts.proofs.Canonical as lemmas
use Rattle.kmip_ttlv_parts.proofs.laws.reading_trees.Goals as goal

pub returns : goal.returns
returns c = lemmas.reading_trees
