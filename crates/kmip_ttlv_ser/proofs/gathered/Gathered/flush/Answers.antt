use Rattle.std.proofs.Common.{◌++◌, subst}
use Rattle.kmip_ttlv_ser.specs.Outputs.{IsGiven}
use Rattle.kmip_ttlv_ser.proofs.gathered.Gathered.flush.Goals as goal

pub returns-clause-sent : goal.returns-clause-sent
returns-clause-sent g c = λ start sent given.
    let sink = c.send.new.sink in
    subst (λ bs. IsGiven start (sent ++ bs) (g.S.Sink.emitted sink) (g.S.Sink.room sink) c.send.new.failure) c.bytes.ensures
    (c.send.ensures start sent given)
