use Rattle.std.proofs.Common.{◌∷◌, ◌++◌, refl}
use Rattle.ttlv_run.proofs.Decoders.{waits, pushes}
use Rattle.ttlv_run.proofs.decoder.Decoder.push.Goals as goal

pub returns-clause-made : goal.returns-clause-made
returns-clause-made c = λ mark s bytes r.
    let mid = c.take-made.new.self in
    let b = c.args.b in
    pushes mid r c.in-Some.is c.take-made.ensures.offset (record { form = refl; part = refl; phase = refl; begun = refl }) refl refl c.take-made.result
    (λ more. c.take-made.ensures.made (s ++ b ∷ more) bytes (b ∷ more) refl (waits mid r c.in-Some.is b more))
