use Rattle.kmip_ttlv_types.specs.Held.{held}
use Rattle.kmip_ttlv_types.proofs.Held.{gets_none}
use Rattle.ttlv_run.proofs.Gathering.{sent, not_all, nothing_sent}
use Rattle.ttlv_run.proofs.gather.send_of.Goals as goal

pub returns-in-Whole-clause-ok : goal.returns-in-Whole-clause-ok
returns-in-Whole-clause-ok g c =
    sent c.args.product c.args.text.items (held g.W.Sink.emitted g.W.Sink.room c.args.output.now) (held g.W.Sink.emitted g.W.Sink.room c.send.new.output)
    c.in-Whole.made c.as_slice.result.now c.send.result c.in_ok-made.ensures.ok c.in-Whole.is c.as_slice.ensures.value c.send.ensures.ok

pub returns-in-Whole-clause-err : goal.returns-in-Whole-clause-err
returns-in-Whole-clause-err g c =
    not_all c.args.product c.args.text.items (held g.W.Sink.emitted g.W.Sink.room c.args.output.now) (held g.W.Sink.emitted g.W.Sink.room c.send.new.output)
    c.in-Whole.made c.as_slice.result.now c.send.result c.in_ok-made.ensures.ok c.in-Whole.is c.as_slice.ensures.value c.send.ensures.why c.send.ensures.err

pub returns-in-Lacks-clause-ok : goal.returns-in-Lacks-clause-ok
returns-in-Lacks-clause-ok g c =
    let of = held g.W.Sink.emitted g.W.Sink.room c.args.output.now in
    nothing_sent c.args.product c.args.text.items of of c.in-Lacks.field-0 c.in_ok-made.ensures.ok c.in-Lacks.is (gets_none of)
