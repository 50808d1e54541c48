use Rattle.std.proofs.Common.{List, ℕ, ap}
use Rattle.std.specs.Prelude.{◌++◌}
use Rattle.kmip_ttlv_util.proofs.Saying.{err_now, ok_same, err_same, ok_then, err_then}
use Rattle.kmip_ttlv_json.specs.Parts.{tag_part, opening}
use Rattle.kmip_ttlv_json.specs.Printings.{style_of}
use Rattle.kmip_ttlv_json.proofs.print.push_opening.Goals as goal

pub returns-in_err-push_tag_part-clause-err : goal.returns-in_err-push_tag_part-clause-err
unfolding opening
returns-in_err-push_tag_part-clause-err g c = err_now g.S.TextSink.adds g.S.TextSink.breaks _ _ _ _
    (g.met.S.TextSink.breaks_first _ _ (tag_part (style_of c.args.words) c.args.tag) _ c.in_err-push_tag_part.ensures.err)

pub returns : goal.returns
unfolding opening
returns g c =
    let first = tag_part (style_of c.args.words) c.args.tag in
    let same = ap (λ (s : List ℕ). first ++ s) c.type_part.ensures in
    record {
      ok = ok_same g.S.TextSink.adds g.S.TextSink.breaks c.push_str.result _ _ _ _
          (ok_then g.S.TextSink.adds g.S.TextSink.breaks g.met.S.TextSink.adds_both c.push_str.result _ _ _ first _ c.in_ok-push_tag_part.ensures.ok
          c.push_str.ensures.ok) same;
      err = err_same g.S.TextSink.adds g.S.TextSink.breaks c.push_str.result _ _ _ _
          (err_then g.S.TextSink.adds g.S.TextSink.breaks g.met.S.TextSink.breaks_second c.push_str.result _ _ _ first _ c.in_ok-push_tag_part.ensures.ok
          c.push_str.ensures.err) same;
    }
