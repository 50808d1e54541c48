use Rattle.kmip_ttlv_ser.proofs.Outputs.{fails_now}
use Rattle.kmip_ttlv_ser.proofs.gathered.send.Goals as goal

pub returns-in-Err : goal.returns-in-Err
returns-in-Err g c = λ start sent given.
    fails_now start sent c.args.bytes.now (g.S.Sink.emitted c.args.sink.now) (g.S.Sink.emitted c.send.new.self) (g.S.Sink.room c.args.sink.now)
    c.args.failure.now c.is_some.ensures c.if-is_some.false given c.in-Err.ensures.err c.in-Err.ensures.tight
