use Rattle.std.proofs.Common.{rules, refl}
use Rattle.kmip_ttlv_util.proofs.Saying.{adds_same, breaks_same, ok_same, err_same, err_now, ok_then, err_then}
use Rattle.ttlv_run.specs.Texts.{names_of}
use Rattle.ttlv_run.proofs.Parts.{value_structure, value_leaf}
use Rattle.ttlv_run.proofs.lines.push_content.Goals as goal

pub returns-then-eq-clause-ok : goal.returns-then-eq-clause-ok
returns-then-eq-clause-ok g c =
    adds_same g.S.TextSink.adds g.S.TextSink.breaks _ _ _ _ (g.met.S.TextSink.adds_none c.args.out.now)
    (value_structure (names_of c.args.names.now) c.args.look.now c.args.reach.now c.args.bytes.now c.args.item.now (search rules))

pub returns-in_err-push_color-clause-err : goal.returns-in_err-push_color-clause-err
returns-in_err-push_color-clause-err g c =
    let same = value_leaf (names_of c.args.names.now) c.args.look.now c.args.reach.now c.args.bytes.now c.args.item.now _ _ refl refl
    (search rules) c.requires.len in
    err_now g.S.TextSink.adds g.S.TextSink.breaks _ _ _ _ (breaks_same g.S.TextSink.adds g.S.TextSink.breaks _ _ _ _
    (g.met.S.TextSink.breaks_first _ _ _ _ c.in_err-push_color.ensures.err) same)

pub returns-in_err-push_shown-clause-err : goal.returns-in_err-push_shown-clause-err
returns-in_err-push_shown-clause-err g c =
    let same = value_leaf (names_of c.args.names.now) c.args.look.now c.args.reach.now c.args.bytes.now c.args.item.now _ _ c.values_shown-values.ensures
    c.naming_tag-tag.ensures (search rules) c.requires.len in
    err_now g.S.TextSink.adds g.S.TextSink.breaks _ _ _ _ (breaks_same g.S.TextSink.adds g.S.TextSink.breaks _ _ _ _
    (g.met.S.TextSink.breaks_second _ _ _ _ _ c.in_ok-push_color.ensures.ok (g.met.S.TextSink.breaks_first _ _ _ _ c.in_err-push_shown.ensures.err)) same)

pub returns : goal.returns
returns g c =
    let same = value_leaf (names_of c.args.names.now) c.args.look.now c.args.reach.now c.args.bytes.now c.args.item.now _ _ c.values_shown-values.ensures
    c.naming_tag-tag.ensures (search rules) c.requires.len in
    record {
      ok = ok_same g.S.TextSink.adds g.S.TextSink.breaks c.push_color-2.result _ _ _ _
          (ok_then g.S.TextSink.adds g.S.TextSink.breaks g.met.S.TextSink.adds_both c.push_color-2.result _ _ _ _ _ c.in_ok-push_color.ensures.ok
          (ok_then g.S.TextSink.adds g.S.TextSink.breaks g.met.S.TextSink.adds_both c.push_color-2.result _ _ _ _ _ c.in_ok-push_shown.ensures.ok
          c.push_color-2.ensures.ok)) same;
      err = err_same g.S.TextSink.adds g.S.TextSink.breaks c.push_color-2.result _ _ _ _
          (err_then g.S.TextSink.adds g.S.TextSink.breaks g.met.S.TextSink.breaks_second c.push_color-2.result _ _ _ _ _ c.in_ok-push_color.ensures.ok
          (err_then g.S.TextSink.adds g.S.TextSink.breaks g.met.S.TextSink.breaks_second c.push_color-2.result _ _ _ _ _ c.in_ok-push_shown.ensures.ok
          c.push_color-2.ensures.err)) same;
    }
