use Rattle.kmip_ttlv_parts.proofs.Agreeing.{agreeing_is_read, agreeing_is_written}
use Rattle.kmip_ttlv_parts.proofs.laws.agreeing_values_come_back.Goals as goal

pub returns-clause-written : goal.returns-clause-written
returns-clause-written c = agreeing_is_written

pub returns-clause-read : goal.returns-clause-read
returns-clause-read c = agreeing_is_read
