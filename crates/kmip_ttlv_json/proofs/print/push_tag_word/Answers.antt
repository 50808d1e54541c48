use Rattle.std.specs.Prelude.{codes}
use Rattle.kmip_ttlv_util.proofs.Saying.{err_now, ok_then, err_then}
use Rattle.kmip_ttlv_json.proofs.print.push_tag_word.Goals as goal

pub returns-in_err-push_str-clause-err : goal.returns-in_err-push_str-clause-err
returns-in_err-push_str-clause-err g c = err_now g.S.TextSink.adds g.S.TextSink.breaks _ _ _ _
    (g.met.S.TextSink.breaks_first _ _ (codes "{\"tag\":\"") _ c.in_err-push_str.ensures.err)

pub returns : goal.returns
returns g c = record {
  ok = ok_then g.S.TextSink.adds g.S.TextSink.breaks g.met.S.TextSink.adds_both c.push_str-2.result _ _ _ (codes "{\"tag\":\"") _
      c.in_ok-push_str.ensures.ok c.push_str-2.ensures.ok;
  err = err_then g.S.TextSink.adds g.S.TextSink.breaks g.met.S.TextSink.breaks_second c.push_str-2.result _ _ _ (codes "{\"tag\":\"") _
      c.in_ok-push_str.ensures.ok c.push_str-2.ensures.err;
}
