use Rattle.std.proofs.Common.{rules, inl, inr, refl}
use Rattle.std.proofs.lemmas.Result.{err_from_is_err_and}
use Rattle.kmip_ttlv_types.specs.Held.{held}
use Rattle.ttlv_run.proofs.Gathering.{sent_before, not_sent_before}
use Rattle.ttlv_run.proofs.gather.send_made.Goals as goal

pub returns-in_err-send_of-in-Ok-false : goal.returns-in_err-send_of-in-Ok-false
returns-in_err-send_of-in-Ok-false g c =
    let has = held g.W.Sink.emitted g.W.Sink.room in
    let y = err_from_is_err_and c.from_residual.result c.from_residual.ensures.1 in
    rw (c.in-Ok-false.is, y.1, y.2) (not_sent_before c.args.product c.args.text.items (has c.args.output.now) (has c.send_of.new.output)
    (held g.E.Sink.emitted g.E.Sink.room c.args.errors.now) c.args.name.now c.in-Ok-false.field-0 _ c.in_err-send_of-in-Ok-false.ensures.err)

pub returns-in_err-send_of-in-Err : goal.returns-in_err-send_of-in-Err
returns-in_err-send_of-in-Err g c =
    let y = err_from_is_err_and c.from_residual-in_err-send_of-in-Err.result c.from_residual-in_err-send_of-in-Err.ensures.1 in
    rw (c.in-Err.is, y.1, y.2) (inr c.in_err-send_of-in-Err.ensures.err, refl)

pub returns-in_ok-send_of-in-Ok-false : goal.returns-in_ok-send_of-in-Ok-false
returns-in_ok-send_of-in-Ok-false g c =
    let has = held g.W.Sink.emitted g.W.Sink.room in
    rw c.in-Ok-false.is (sent_before c.args.product c.args.text.items (has c.args.output.now) (has c.send_of.new.output)
    (held g.E.Sink.emitted g.E.Sink.room c.args.errors.now) c.args.name.now c.in-Ok-false.field-0 (search rules) c.in_ok-send_of-in-Ok-false.ensures.ok)

pub returns-in_ok-send_of-in-Err : goal.returns-in_ok-send_of-in-Err
returns-in_ok-send_of-in-Err g c = rw c.in-Err.is (inl (refl, c.in_ok-send_of-in-Err.ensures.ok), refl)
