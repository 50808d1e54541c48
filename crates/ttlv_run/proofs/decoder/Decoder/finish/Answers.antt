use Rattle.std.proofs.Common.{[], refl, subst}
use Rattle.ttlv_run.specs.Decoding.{Takes}
use Rattle.ttlv_run.proofs.Decoders.{last_taken, finishes_with, finishes, none_finishes}
use Rattle.ttlv_run.proofs.decoder.Decoder.finish.Goals as goal

pub returns-in_default-clause-made : goal.returns-in_default-clause-made
returns-in_default-clause-made c = λ mark s bytes r. none_finishes r c.in_default.is

pub returns-in-Nothing-clause-made : goal.returns-in-Nothing-clause-made
returns-in-Nothing-clause-made c = λ mark s bytes r.
    let mid = c.take.new.self in
    let takes = subst (Takes c.args.self.now mid s bytes c.in-Some.last []) c.in-Nothing.is
    (c.take.ensures.made s bytes [] refl (last_taken mid r c.in-Some.is)) in
    finishes mid r c.in-Some.is c.take.ensures.form c.ended.result c.take.ensures.offset takes (c.ended.ensures takes.digits bytes takes.knows)

pub returns-in_default-take-clause-made : goal.returns-in_default-take-clause-made
returns-in_default-take-clause-made c = λ mark s bytes r.
    finishes_with c.take.new.self r c.in-Some.is c.take.ensures.form c.take.result c.in_default-take.not-Nothing
    (c.take.ensures.made s bytes [] refl (last_taken c.take.new.self r c.in-Some.is))
