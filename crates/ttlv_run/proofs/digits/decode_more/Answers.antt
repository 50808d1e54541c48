use Rattle.std.proofs.{Common.◌∙◌, lemmas.Result.err_from_is_err_and}
use Rattle.ttlv_run.specs.Streaming.{window_bytes}
use Rattle.ttlv_run.proofs.Decoders.{more_ended}
use Rattle.ttlv_run.proofs.digits.decode_more.Goals as goal

pub returns-in_err-why-clause-made : goal.returns-in_err-why-clause-made
returns-in_err-why-clause-made g c =
    let y = err_from_is_err_and c.from_residual.result c.from_residual.ensures.1 in
    let h = c.in_err-why.ensures.made in
    rw y.1 (record { came = h.came; are = h.are; holds = λ mark s all r. y.2 ∙ h.holds mark s all r })

pub returns-in-Some-clause-made : goal.returns-in-Some-clause-made
returns-in-Some-clause-made g c =
    let h = rw (c.in-Some.is, c.buffered-piece.ensures.are) at c.in_ok-why.ensures.made in
    record { came = h.came; are = h.are; holds = λ mark s all r more none. h.holds mark s all r more }

pub returns-then-ended-clause-made : goal.returns-then-ended-clause-made
returns-then-ended-clause-made g c =
    let read = rw (c.in_default.is, c.buffered-piece.ensures.are) at c.in_ok-why.ensures.made in
    rw c.if-ended.true (more_ended c.finish.new.self (window_bytes c.args.text.now) read c.finish.ensures.form c.finish.result c.put.result
    c.finish.ensures.made c.put.ensures)

pub returns-clause-made : goal.returns-clause-made
returns-clause-made g c =
    let read = rw (c.in_default.is, c.buffered-piece.ensures.are) at c.in_ok-why.ensures.made in
    rw c.if-ended.false read

pub returns-then-ended-clause-form : goal.returns-then-ended-clause-form
returns-then-ended-clause-form g c = c.finish.ensures.form ∙ c.decode_piece.ensures.form
