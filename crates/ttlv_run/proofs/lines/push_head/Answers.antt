use Rattle.kmip_ttlv_util.proofs.Saying.{err_now, ok_then, err_then}
use Rattle.ttlv_run.specs.Texts.{tag_part}
use Rattle.ttlv_run.proofs.lines.push_head.Goals as goal

pub returns-in_err-push_color-clause-err : goal.returns-in_err-push_color-clause-err
unfolding tag_part
returns-in_err-push_color-clause-err g c =
    err_now g.S.TextSink.adds g.S.TextSink.breaks _ _ _ _ (g.met.S.TextSink.breaks_first _ _ _ _ c.in_err-push_color.ensures.err)

pub returns-in_err-push_beginning-clause-err : goal.returns-in_err-push_beginning-clause-err
unfolding tag_part
returns-in_err-push_beginning-clause-err g c =
    err_now g.S.TextSink.adds g.S.TextSink.breaks _ _ _ _ (g.met.S.TextSink.breaks_second _ _ _ _ _ c.in_ok-push_color.ensures.ok
    (g.met.S.TextSink.breaks_first _ _ _ _ c.in_err-push_beginning.ensures.err))

pub returns : goal.returns
unfolding tag_part
returns g c = record {
  ok = ok_then g.S.TextSink.adds g.S.TextSink.breaks g.met.S.TextSink.adds_both c.push_color-2.result _ _ _ _ _ c.in_ok-push_color.ensures.ok
      (ok_then g.S.TextSink.adds g.S.TextSink.breaks g.met.S.TextSink.adds_both c.push_color-2.result _ _ _ _ _ c.in_ok-push_beginning.ensures.ok
      c.push_color-2.ensures.ok);
  err = err_then g.S.TextSink.adds g.S.TextSink.breaks g.met.S.TextSink.breaks_second c.push_color-2.result _ _ _ _ _ c.in_ok-push_color.ensures.ok
      (err_then g.S.TextSink.adds g.S.TextSink.breaks g.met.S.TextSink.breaks_second c.push_color-2.result _ _ _ _ _ c.in_ok-push_beginning.ensures.ok
      c.push_color-2.ensures.err);
}
