use Rattle.kmip_ttlv_types.specs.Held.{held}
use Rattle.ttlv_run.proofs.run.run_to_end.Goals as goal

pub returns-in-Ok : goal.returns-in-Ok
returns-in-Ok g c = rw c.in-Ok.is at c.respond.ensures

pub returns-in-Err : goal.returns-in-Err
returns-in-Err g c =
    let ended = rw c.in-Err.is at c.respond.ensures in
    (ended.0, (held g.E.Sink.emitted g.E.Sink.room c.respond.new.errors, ended.1, c.report_error.ensures))
