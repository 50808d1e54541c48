use Rattle.kmip_ttlv_parts.proofs.OneTree as trees
use Rattle.kmip_ttlv_parts.proofs.laws.one_tree.Goals as goal

pub returns : goal.returns
returns c = trees.tree_same
