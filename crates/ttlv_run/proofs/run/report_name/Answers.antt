use Rattle.std.proofs.Common.{rules, ◌∙◌, sym}
use Rattle.kmip_ttlv_types.specs.Held.{held}
use Rattle.kmip_ttlv_util.specs.Pieces.{buffered}
use Rattle.kmip_ttlv_util.proofs.Saying.{lent_buffer, sink_of}
use Rattle.ttlv_run.specs.{Escapes.escape, Reasons.Reports}
use Rattle.ttlv_run.proofs.Appending.{name_ended, ok_here}
use Rattle.ttlv_run.proofs.run.report_name.Goals as goal

pub returns : goal.returns
returns g c =
    let of = buffered g.E.Sink.emitted g.E.Sink.room in
    let text = escape c.args.name.now in
    let new = c.new.ensures in
    let is = lent_buffer g.E.Sink.emitted g.E.Sink.room c.new.result new.same_reference new.sink new.empty new.going in
    let moves = ok_here c.push_text.result (sym c.is_err.ensures.value ∙ c.if-is_err.false) c.push_text.ensures.ok in
    let has = held g.E.Sink.emitted g.E.Sink.room c.args.errors.now in
    let done = name_ended _ has (of c.new.result) is c.finish.result c.is_ok.result (of c.push_text.new.out.0) (of c.finish.new.self) text
    c.is_ok.ensures.value moves c.finish.ensures.ok c.finish.ensures.err c.finish.ensures.empty in
    let name = done.0 in
    let reported : Reports c.is_ok.result has (sink_of (of c.finish.new.self)) text = done.1 in
    search rules
