use Rattle.kmip_ttlv_util.proofs.Saying.{err_now, does_then}
use Rattle.kmip_ttlv_util.proofs.pretty.push_item.Goals as goal

pub returns-in_err-push_line-clause-err : goal.returns-in_err-push_line-clause-err
returns-in_err-push_line-clause-err g c =
    err_now g.S.TextSink.adds g.S.TextSink.breaks _ _ _ _ (g.met.S.TextSink.breaks_first _ _ _ _ (c.in_err-push_line.ensures.err))

pub returns : goal.returns
returns g c =
    let d = does_then g.met.S.TextSink.adds_both g.met.S.TextSink.breaks_second c.push_warning.result _ c.in_ok-push_line.ensures.ok
    record { ok = c.push_warning.ensures.ok; err = c.push_warning.ensures.err } in
    record { ok = d.ok; err = d.err }
