use Rattle.std.proofs.Common.{arith, refl}
use Rattle.kmip_ttlv_c.specs.LentWrites.{names}
use Rattle.kmip_ttlv_c.proofs.Written.{all_written, none_written}
use Rattle.kmip_ttlv_c.proofs.writing.kmip_ttlv_write.Goals as goal

pub returns-in-Err : goal.returns-in-Err
returns-in-Err c = names c.in-Err.found c.in-Err.ensures.err c.bad_of-in-Err.ensures refl refl c.in-Err.ensures.unchanged

pub returns-then-length-room : goal.returns-then-length-room
returns-then-length-room c =
    none_written c.args.items.now c.args.bytes.now c.in-Ok.len c.args.out.now c.write_into.new.out c.in-Ok.ensures.ok c.bad_of.result c.bad_of.ensures
    (omega arith)

pub returns : goal.returns
returns c =
    all_written c.args.items.now c.args.bytes.now c.in-Ok.len c.args.out.now c.write_into.new.out c.in-Ok.ensures.ok c.bad_of.result c.bad_of.ensures
    (omega arith)
