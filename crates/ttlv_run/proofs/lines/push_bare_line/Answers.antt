use Rattle.kmip_ttlv_util.proofs.Saying.{breaks_same, ok_same, err_same, err_now, ok_then, err_then}
use Rattle.ttlv_run.specs.Texts.{names_of}
use Rattle.ttlv_run.proofs.Parts.{bare_line_is}
use Rattle.ttlv_run.proofs.lines.push_bare_line.Goals as goal

pub returns-in_err-push_bare-clause-err : goal.returns-in_err-push_bare-clause-err
returns-in_err-push_bare-clause-err g c =
    let same = bare_line_is (names_of c.args.names.now) c.args.look.now c.args.reach.now c.args.bytes.now c.args.item.now _ _ _
    c.values_shown-values.ensures c.naming_tag-tag.ensures c.content_of-content.ensures in
    err_now g.S.TextSink.adds g.S.TextSink.breaks _ _ _ _ (breaks_same g.S.TextSink.adds g.S.TextSink.breaks _ _ _ _
    (g.met.S.TextSink.breaks_first _ _ _ _ c.in_err-push_bare.ensures.err) same)

pub returns-clause-ok : goal.returns-clause-ok
returns-clause-ok g c =
    let same = bare_line_is (names_of c.args.names.now) c.args.look.now c.args.reach.now c.args.bytes.now c.args.item.now _ _ _
    c.values_shown-values.ensures c.naming_tag-tag.ensures c.content_of-content.ensures in
    ok_same g.S.TextSink.adds g.S.TextSink.breaks c.push_str.result _ _ _ _
    (ok_then g.S.TextSink.adds g.S.TextSink.breaks g.met.S.TextSink.adds_both c.push_str.result _ _ _ _ _ c.in_ok-push_bare.ensures.ok
    c.push_str.ensures.ok) same

pub returns-clause-err : goal.returns-clause-err
returns-clause-err g c =
    let same = bare_line_is (names_of c.args.names.now) c.args.look.now c.args.reach.now c.args.bytes.now c.args.item.now _ _ _
    c.values_shown-values.ensures c.naming_tag-tag.ensures c.content_of-content.ensures in
    err_same g.S.TextSink.adds g.S.TextSink.breaks c.push_str.result _ _ _ _
    (err_then g.S.TextSink.adds g.S.TextSink.breaks g.met.S.TextSink.breaks_second c.push_str.result _ _ _ _ _ c.in_ok-push_bare.ensures.ok
    c.push_str.ensures.err) same
