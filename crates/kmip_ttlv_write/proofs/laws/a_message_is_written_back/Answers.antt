use Rattle.kmip_ttlv_write.proofs.Uniques.{written_back, canonical_stays}
use Rattle.kmip_ttlv_write.proofs.laws.a_message_is_written_back.Goals as goal

pub returns-clause-items : goal.returns-clause-items
returns-clause-items c = written_back

pub returns-clause-canonical : goal.returns-clause-canonical
returns-clause-canonical c = canonical_stays
