use Rattle.std.specs.Prelude.{codes}
use Rattle.kmip_ttlv_util.specs.Lines.{hex_padded}
use Rattle.kmip_ttlv_util.proofs.Saying.{err_now, does_then}
use Rattle.kmip_ttlv_util.proofs.lines.push_named.Goals as goal

pub returns-in_err-push_str-clause-err : goal.returns-in_err-push_str-clause-err
returns-in_err-push_str-clause-err g c =
    err_now g.S.TextSink.adds g.S.TextSink.breaks _ _ _ _ (g.met.S.TextSink.breaks_first _ _ c.args.name.now _ (c.in_err-push_str.ensures.err))

pub returns-in_err-push_str-2-clause-err : goal.returns-in_err-push_str-2-clause-err
returns-in_err-push_str-2-clause-err g c =
    err_now g.S.TextSink.adds g.S.TextSink.breaks _ _ _ _ (g.met.S.TextSink.breaks_second _ _ _ c.args.name.now _ (c.in_ok-push_str.ensures.ok)
    (g.met.S.TextSink.breaks_first _ _ (codes " (") _ (c.in_err-push_str-2.ensures.err)))

pub returns-in_err-push_prefixed-clause-err : goal.returns-in_err-push_prefixed-clause-err
returns-in_err-push_prefixed-clause-err g c =
    err_now g.S.TextSink.adds g.S.TextSink.breaks _ _ _ _ (g.met.S.TextSink.breaks_second _ _ _ c.args.name.now _ (c.in_ok-push_str.ensures.ok)
    (g.met.S.TextSink.breaks_second _ _ _ (codes " (") _ (c.in_ok-push_str-2.ensures.ok) (g.met.S.TextSink.breaks_first _ _ (hex_padded c.args.least c.args.n)
    (codes ")") (c.in_err-push_prefixed.ensures.err))))

pub returns : goal.returns
returns g c =
    let d = does_then g.met.S.TextSink.adds_both g.met.S.TextSink.breaks_second c.push_str-3.result _ c.in_ok-push_str.ensures.ok
    (does_then g.met.S.TextSink.adds_both g.met.S.TextSink.breaks_second _ _ c.in_ok-push_str-2.ensures.ok
    (does_then g.met.S.TextSink.adds_both g.met.S.TextSink.breaks_second _ _ c.in_ok-push_prefixed.ensures.ok
    record { ok = c.push_str-3.ensures.ok; err = c.push_str-3.ensures.err })) in
    record { ok = d.ok; err = d.err }
