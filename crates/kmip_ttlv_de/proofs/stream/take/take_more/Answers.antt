use Rattle.kmip_ttlv_de.proofs.Filling.{lacks_by_fault}
use Rattle.kmip_ttlv_de.proofs.stream.take.take_more.Goals as goal

pub returns-in-Err-IoError-clause-err : goal.returns-in-Err-IoError-clause-err
returns-in-Err-IoError-clause-err g c =
    let came = rw c.in-Err-IoError.field-0-is at c.in-Err-IoError.ensures.takes in
    lacks_by_fault _ _ _ c.args.count c.in-Err-IoError.fault c.io_fault.result c.io_fault.ensures came
