use Rattle.kmip_ttlv_ser.proofs.Splitting.{written_split}
use Rattle.kmip_ttlv_ser.proofs.laws.written_bytes_are_split.Goals as goal

pub returns : goal.returns
returns c = written_split
