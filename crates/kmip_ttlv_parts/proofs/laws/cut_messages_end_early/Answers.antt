use Rattle.kmip_ttlv_parts.proofs.Roots as roots
use Rattle.kmip_ttlv_parts.proofs.laws.cut_messages_end_early.Goals as goal

pub returns : goal.returns
returns c = roots.cut_messages
