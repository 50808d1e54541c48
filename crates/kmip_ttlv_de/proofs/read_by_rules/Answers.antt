use Rattle.kmip_ttlv_reader.proofs.{Founding.found_at, Founding.found_root, Giving.given_at, Giving.given_root}
use Rattle.kmip_ttlv_de.proofs.read_by_rules.Goals as goal

pub returns : goal.returns
returns c = record { complete = given_at; sound = found_at; whole_complete = given_root; whole_sound = found_root }
