use Rattle.kmip_ttlv_parts.proofs.Roots as roots
use Rattle.kmip_ttlv_parts.proofs.laws.reading_what_was_written.Goals as goal

pub returns : goal.returns
returns c = roots.reading_what_was_written
