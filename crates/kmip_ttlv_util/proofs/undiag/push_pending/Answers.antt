use Rattle.std.specs.Prelude.{codes}
use Rattle.kmip_ttlv_util.proofs.Firm.{is_pending}
use Rattle.kmip_ttlv_util.proofs.Saying.{does_then, err_front, begins_equal}
use Rattle.kmip_ttlv_util.proofs.undiag.push_pending.Goals as goal

pub returns-in_err-push_str-clause-err : goal.returns-in_err-push_str-clause-err
returns-in_err-push_str-clause-err g c =
    let is = is_pending c.args.pending c.args.shown.now c.if-not-pending.false in
    err_front g.met.S.TextSink.breaks_first _ (g.met.S.TextSink.breaks_first _ _ (codes ", Data: ") _ c.in_err-push_str.ensures.err) (begins_equal is)

pub returns-in_err-push_str-2-clause-err : goal.returns-in_err-push_str-2-clause-err
returns-in_err-push_str-2-clause-err g c =
    let is = is_pending c.args.pending c.args.shown.now c.if-not-pending.false in
    err_front g.met.S.TextSink.breaks_first _ (g.met.S.TextSink.breaks_second _ _ _ (codes ", Data: ") _ c.in_ok-push_str.ensures.ok
    (g.met.S.TextSink.breaks_first _ _ c.args.shown.now _ c.in_err-push_str-2.ensures.err)) (begins_equal is)

pub returns : goal.returns
returns g c =
    let is = is_pending c.args.pending c.args.shown.now c.if-not-pending.false in
    let d = does_then g.met.S.TextSink.adds_both g.met.S.TextSink.breaks_second c.push_str-3.result _ c.in_ok-push_str.ensures.ok
    (does_then g.met.S.TextSink.adds_both g.met.S.TextSink.breaks_second _ _ c.in_ok-push_str-2.ensures.ok
    record { ok = c.push_str-3.ensures.ok; err = c.push_str-3.ensures.err }) in
    record { ok = rw (← is) d.ok; err = rw (← is) d.err }
