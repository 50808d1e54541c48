use Rattle.kmip_ttlv_parts.proofs.Roots as roots
use Rattle.kmip_ttlv_parts.proofs.laws.later_bytes.Goals as goal

pub returns-clause-item : goal.returns-clause-item
returns-clause-item c = roots.later_bytes

pub returns-clause-message : goal.returns-clause-message
returns-clause-message c = roots.message_alone
