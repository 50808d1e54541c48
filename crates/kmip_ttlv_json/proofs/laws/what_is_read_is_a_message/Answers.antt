use Rattle.kmip_ttlv_json.proofs.Sounding.{sound}
use Rattle.kmip_ttlv_json.proofs.laws.what_is_read_is_a_message.Goals as goal

pub returns : goal.returns
returns c text t s = sound s.reads.json t s.reads.is s.fits
