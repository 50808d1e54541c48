use Rattle.kmip_ttlv_reader.proofs.Founding.{whole_root}
use Rattle.kmip_ttlv_de.proofs.whole_messages_never_end_early.Goals as goal

pub returns : goal.returns
returns c = whole_root
