use Rattle.kmip_ttlv_ser.proofs.Outputs.{waits_too, flushed, sent_too}
use Rattle.kmip_ttlv_ser.proofs.gathered.GatheredOutput.give.Goals as goal

pub returns-then-piece-le-ROOM : goal.returns-then-piece-le-ROOM
returns-then-piece-le-ROOM g c = λ start sent given.
    waits_too c.args.piece.now (flushed given c.flush.ensures.same_reference c.flush.ensures.sent c.flush.ensures.empty) c.push-then-piece-le-ROOM.ensures

pub returns : goal.returns
returns g c = λ start sent given.
    sent_too c.args.piece.now (flushed given c.flush.ensures.same_reference c.flush.ensures.sent c.flush.ensures.empty) c.flush.ensures.empty c.send.ensures
