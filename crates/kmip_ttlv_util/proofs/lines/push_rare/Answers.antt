use Rattle.std.specs.Prelude.{codes}
use Rattle.kmip_ttlv_util.proofs.Saying.{err_now, does_then}
use Rattle.kmip_ttlv_util.proofs.lines.push_rare.Goals as goal

pub returns-in_err-push_str-clause-err : goal.returns-in_err-push_str-clause-err
returns-in_err-push_str-clause-err g c =
    err_now g.S.TextSink.adds g.S.TextSink.breaks _ _ _ _ (g.met.S.TextSink.breaks_first _ _ (codes "Tag: ") _ (c.in_err-push_str.ensures.err))

pub returns : goal.returns
returns g c =
    let d = does_then g.met.S.TextSink.adds_both g.met.S.TextSink.breaks_second c.push_prefixed.result _ c.in_ok-push_str.ensures.ok
    record { ok = c.push_prefixed.ensures.ok; err = c.push_prefixed.ensures.err } in
    record { ok = d.ok; err = d.err }
