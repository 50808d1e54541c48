use Rattle.kmip_ttlv_ser.proofs.Outputs.{fails_now}
use Rattle.kmip_ttlv_ser.proofs.output.DirectOutput.give.Goals as goal

pub returns-in-Err : goal.returns-in-Err
returns-in-Err g c = λ start sent given.
    fails_now start sent c.args.piece.now (g.S.Sink.emitted c.args.self.now.sink) (g.S.Sink.emitted c.send.new.self) (g.S.Sink.room c.args.self.now.sink)
    c.args.self.now.failure c.is_some.ensures c.if-is_some.false given c.in-Err.ensures.err c.in-Err.ensures.tight
