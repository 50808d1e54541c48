use Rattle.std.proofs.Common.{rules, ◌≡◌}
use Rattle.std.specs.{Prelude.codes, Fmt.decimal}
use Rattle.kmip_ttlv_util.proofs.Saying.{err_now, does_same, does_then}
use Rattle.kmip_ttlv_util.proofs.pretty.push_unreadable.Goals as goal

pub returns-in_err-push_str-clause-err : goal.returns-in_err-push_str-clause-err
returns-in_err-push_str-clause-err g c =
    err_now g.S.TextSink.adds g.S.TextSink.breaks _ _ _ _ (g.met.S.TextSink.breaks_first _ _ (codes "ERROR: cannot read the item at byte ") _
    (c.in_err-push_str.ensures.err))

pub returns : goal.returns
returns g c =
    let text : c.format.result.now ≡ decimal c.args.place = search rules in
    let d = does_then g.met.S.TextSink.adds_both g.met.S.TextSink.breaks_second c.push_str-2.result _ c.in_ok-push_str.ensures.ok
    (does_same record { ok = c.push_str-2.ensures.ok; err = c.push_str-2.ensures.err } text) in
    record { ok = d.ok; err = d.err }
