use Rattle.std.proofs.Common.{arith}
use Rattle.kmip_ttlv_util.proofs.HexDigits.{wide_digits}
use Rattle.kmip_ttlv_util.proofs.Saying.{does_then, err_front, begins_equal}
use Rattle.kmip_ttlv_util.proofs.digits.push_wide.Goals as goal

pub returns-in_err-push_digits-clause-err : goal.returns-in_err-push_digits-clause-err
returns-in_err-push_digits-clause-err g c =
    let text = wide_digits c.args.n (omega arith) (omega arith) in
    err_front g.met.S.TextSink.breaks_first _ (g.met.S.TextSink.breaks_first _ _ _ _ c.in_err-push_digits.ensures.err) (begins_equal text)

pub returns : goal.returns
returns g c =
    let text = wide_digits c.args.n (omega arith) (omega arith) in
    let d = does_then g.met.S.TextSink.adds_both g.met.S.TextSink.breaks_second c.push_last.result _ c.in_ok-push_digits.ensures.ok
    record { ok = c.push_last.ensures.ok; err = c.push_last.ensures.err } in
    record { ok = rw (← text) d.ok; err = rw (← text) d.err }
