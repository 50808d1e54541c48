use Rattle.std.proofs.Common.{refl}
use Rattle.kmip_ttlv_ser.proofs.Sending.{all_given}
use Rattle.kmip_ttlv_ser.proofs.emitter.emit.Goals as goal

pub returns : goal.returns
returns g c = λ ts start are planned empty. all_given g.O.Output.given (g.T.Serialize.stated c.args.value.now) c.visit.new.visitor are planned empty refl refl
    c.in-Ok.ensures.received
