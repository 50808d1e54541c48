use Rattle.kmip_ttlv_parts.proofs.Enumerations.{enumerations_agree, enumerations_equal}
use Rattle.kmip_ttlv_parts.proofs.laws.enumerations_come_back.Goals as goal

pub returns-clause-agrees : goal.returns-clause-agrees
returns-clause-agrees g c = enumerations_agree g.row.TAG

pub returns-clause-equal : goal.returns-clause-equal
returns-clause-equal g c = enumerations_equal
