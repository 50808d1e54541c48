use Rattle.std.proofs.Common.{refl}
use Rattle.std.proofs.lemmas.Result.{err_from_is_err_and}
use Rattle.kmip_ttlv_types.specs.Held.{held}
use Rattle.ttlv_run.proofs.Gathering.{sent_part}
use Rattle.ttlv_run.proofs.gather.send_whole.Goals as goal

pub returns-in_err-send-in-Whole : goal.returns-in_err-send-in-Whole
returns-in_err-send-in-Whole g c =
    let why = c.in_err-send-in-Whole.field-0.0 in
    let y = err_from_is_err_and c.from_residual-in_err-send-in-Whole.result c.from_residual-in_err-send-in-Whole.ensures.1 in
    let part = sent_part c.args.product c.args.text.items (held g.W.Sink.emitted g.W.Sink.room c.args.output.now)
    (held g.W.Sink.emitted g.W.Sink.room c.send.new.output) c.in-Whole.made c.as_slice.result.now why
    c.in_ok-made.ensures.ok c.in-Whole.is c.as_slice.ensures.value c.in_err-send-in-Whole.ensures.why c.in_err-send-in-Whole.ensures.err in
    rw (y.1, y.2) (part, refl)
