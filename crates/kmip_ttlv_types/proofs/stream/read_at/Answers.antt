use Rattle.std.proofs.Common.{arith, length-take-le}
use borrow.Rule.Slice.PartMut.{take_put}
use Rattle.kmip_ttlv_types.proofs.Taken.{Consumes-in_place}
use Rattle.kmip_ttlv_types.proofs.stream.read_at.Goals as goal

pub returns-clause-front : goal.returns-clause-front
returns-clause-front g c = take_put _ _ c.args.buf.now _ (omega (arith, c.requires))

pub returns-clause-ok : goal.returns-clause-ok
returns-clause-ok g c =
    Consumes-in_place _ _ c.read_some.result _ c.read_some.new.buf _ c.args.at (length-take-le _ c.args.buf.now (omega (arith, c.requires)))
    c.read_some.ensures.bound c.read_some.ensures.ok
