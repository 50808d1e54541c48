use Rattle.kmip_ttlv_parts.proofs.WorkedAgreements.{attributes_agree, options_agree, sequences_agree}
use Rattle.kmip_ttlv_parts.proofs.laws.worked_values_agree.Goals as goal

pub returns-clause-attributes : goal.returns-clause-attributes
returns-clause-attributes c = attributes_agree

pub returns-clause-options : goal.returns-clause-options
returns-clause-options c = options_agree

pub returns-clause-sequences : goal.returns-clause-sequences
returns-clause-sequences c = sequences_agree
