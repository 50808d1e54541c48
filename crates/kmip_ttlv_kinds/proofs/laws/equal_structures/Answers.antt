use Rattle.kmip_ttlv_kinds.specs.Parts.{structure_item}
use Rattle.kmip_ttlv_kinds.proofs.laws.equal_structures.Goals as goal

pub returns : goal.returns
returns g c = (structure_item g.row.TAG g.T.Structure.rules).same
