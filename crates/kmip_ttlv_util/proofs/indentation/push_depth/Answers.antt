use Rattle.std.proofs.Common.{rules, ◌≡◌, List, ℕ, ◌++◌}
use Rattle.std.specs.{Prelude.codes, Fmt.decimal}
use Rattle.kmip_ttlv_util.specs.Lines.{indent, depth_mark}
use Rattle.kmip_ttlv_util.proofs.Saying.{adds_same, breaks_same, err_now, does_then}
use Rattle.kmip_ttlv_util.proofs.indentation.push_depth.Goals as goal

-- the indentation of 64 levels, and an opening bracket
abbrev levels : List ℕ
levels = indent 64 ++ codes "["

pub returns-in_err-push_str-clause-err : goal.returns-in_err-push_str-clause-err
unfolding depth_mark
returns-in_err-push_str-clause-err g c =
    err_now g.S.TextSink.adds g.S.TextSink.breaks _ _ _ _ (g.met.S.TextSink.breaks_first _ _ levels _ (c.in_err-push_str.ensures.err))

pub returns-in_err-push_str-2-clause-err : goal.returns-in_err-push_str-2-clause-err
unfolding depth_mark
returns-in_err-push_str-2-clause-err g c =
    let text : c.format.result.now ≡ decimal c.args.depth = search rules in
    err_now g.S.TextSink.adds g.S.TextSink.breaks _ _ _ _ (g.met.S.TextSink.breaks_second _ _ _ levels _ (c.in_ok-push_str.ensures.ok)
    (g.met.S.TextSink.breaks_first _ _ (decimal c.args.depth) _
    (breaks_same g.S.TextSink.adds g.S.TextSink.breaks _ _ _ _ c.in_err-push_str-2.ensures.err text)))

pub returns : goal.returns
unfolding depth_mark
returns g c =
    let text : c.format.result.now ≡ decimal c.args.depth = search rules in
    let number = adds_same g.S.TextSink.adds g.S.TextSink.breaks _ _ _ _ c.in_ok-push_str-2.ensures.ok text in
    let d = does_then g.met.S.TextSink.adds_both g.met.S.TextSink.breaks_second c.push_str-3.result _ c.in_ok-push_str.ensures.ok
    (does_then g.met.S.TextSink.adds_both g.met.S.TextSink.breaks_second _ _ number
    record { ok = c.push_str-3.ensures.ok; err = c.push_str-3.ensures.err }) in
    record { ok = d.ok; err = d.err }
