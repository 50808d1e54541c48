use Rattle.kmip_ttlv_reader.proofs.Front.{has_some}
use Rattle.kmip_ttlv_de.proofs.rest.has_fields.Goals as goal

pub returns-in-len1-up : goal.returns-in-len1-up
returns-in-len1-up g c = has_some c.args.fields.now c.in-len1-up.len_at_least
