use Rattle.kmip_ttlv_reader.proofs.Giving.{begins_gives, reads_gives}
use Rattle.kmip_ttlv_de.proofs.what_begins_is_given.Goals as goal

pub returns-clause-items : goal.returns-clause-items
returns-clause-items c = λ s k k' xs ys v r. reads_gives r

pub returns-clause-bytes : goal.returns-clause-bytes
returns-clause-bytes c = begins_gives
