use Rattle.kmip_ttlv_write.proofs.Uniques.{are_messages}
use Rattle.kmip_ttlv_write.proofs.laws.what_is_written_is_a_message.Goals as goal

pub returns : goal.returns
returns c = are_messages
