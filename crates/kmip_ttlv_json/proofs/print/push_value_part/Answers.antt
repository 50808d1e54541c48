use Rattle.std.proofs.Common.{rules, ◌≢◌}
use Rattle.std.specs.Prelude.{codes}
use Rattle.kmip_ttlv_types.specs.declared.typ.TtlvType.TheVariants.{Structure}
use Rattle.kmip_ttlv_util.proofs.Saying.{breaks_same, ok_same, err_same, err_now, ok_then, err_then}
use Rattle.kmip_ttlv_json.specs.Printings.{style_of}
use Rattle.kmip_ttlv_json.proofs.Found.{value_printed}
use Rattle.kmip_ttlv_json.proofs.print.push_value_part.Goals as goal

pub returns-in_err-push_leaf-clause-err : goal.returns-in_err-push_leaf-clause-err
returns-in_err-push_leaf-clause-err g c =
    let ne : c.args.item.now.typ ≢ Structure = search rules in
    let same = value_printed (style_of c.args.words) c.args.shown c.args.bytes.now c.args.item.now ne c.requires.len in
    err_now g.S.TextSink.adds g.S.TextSink.breaks _ _ _ _ (breaks_same g.S.TextSink.adds g.S.TextSink.breaks _ _ _ _
    (g.met.S.TextSink.breaks_first _ _ _ _ c.in_err-push_leaf.ensures.err) same)

pub returns : goal.returns
returns g c =
    let ne : c.args.item.now.typ ≢ Structure = search rules in
    let same = value_printed (style_of c.args.words) c.args.shown c.args.bytes.now c.args.item.now ne c.requires.len in
    record {
      ok = ok_same g.S.TextSink.adds g.S.TextSink.breaks c.push_str-2.result _ _ _ _
          (ok_then g.S.TextSink.adds g.S.TextSink.breaks g.met.S.TextSink.adds_both c.push_str-2.result _ _ _ _ (codes "}") c.in_ok-push_leaf.ensures.ok
          c.push_str-2.ensures.ok) same;
      err = err_same g.S.TextSink.adds g.S.TextSink.breaks c.push_str-2.result _ _ _ _
          (err_then g.S.TextSink.adds g.S.TextSink.breaks g.met.S.TextSink.breaks_second c.push_str-2.result _ _ _ _ (codes "}") c.in_ok-push_leaf.ensures.ok
          c.push_str-2.ensures.err) same;
    }
