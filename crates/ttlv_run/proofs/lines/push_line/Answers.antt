use Rattle.kmip_ttlv_util.proofs.Saying.{err_now, ok_then, err_then}
use Rattle.ttlv_run.specs.Texts.{item_line}
use Rattle.ttlv_run.proofs.lines.push_line.Goals as goal

pub returns-in_err-push_column-clause-err : goal.returns-in_err-push_column-clause-err
unfolding item_line
returns-in_err-push_column-clause-err g c =
    err_now g.S.TextSink.adds g.S.TextSink.breaks _ _ _ _ (g.met.S.TextSink.breaks_first _ _ _ _ c.in_err-push_column.ensures.err)

pub returns-in_err-push_column-2-clause-err : goal.returns-in_err-push_column-2-clause-err
unfolding item_line
returns-in_err-push_column-2-clause-err g c =
    err_now g.S.TextSink.adds g.S.TextSink.breaks _ _ _ _ (g.met.S.TextSink.breaks_second _ _ _ _ _ c.in_ok-push_column.ensures.ok
    (g.met.S.TextSink.breaks_first _ _ _ _ c.in_err-push_column-2.ensures.err))

pub returns-in_err-push_own_bytes-clause-err : goal.returns-in_err-push_own_bytes-clause-err
unfolding item_line
returns-in_err-push_own_bytes-clause-err g c =
    err_now g.S.TextSink.adds g.S.TextSink.breaks _ _ _ _ (g.met.S.TextSink.breaks_second _ _ _ _ _ c.in_ok-push_column.ensures.ok
    (g.met.S.TextSink.breaks_second _ _ _ _ _ c.in_ok-push_column-2.ensures.ok (g.met.S.TextSink.breaks_first _ _ _ _ c.in_err-push_own_bytes.ensures.err)))

pub returns-in_err-push_head-clause-err : goal.returns-in_err-push_head-clause-err
unfolding item_line
returns-in_err-push_head-clause-err g c =
    err_now g.S.TextSink.adds g.S.TextSink.breaks _ _ _ _ (g.met.S.TextSink.breaks_second _ _ _ _ _ c.in_ok-push_column.ensures.ok
    (g.met.S.TextSink.breaks_second _ _ _ _ _ c.in_ok-push_column-2.ensures.ok (g.met.S.TextSink.breaks_second _ _ _ _ _ c.in_ok-push_own_bytes.ensures.ok
    (g.met.S.TextSink.breaks_first _ _ _ _ c.in_err-push_head.ensures.err))))

pub returns-in_err-push_data_part-clause-err : goal.returns-in_err-push_data_part-clause-err
unfolding item_line
returns-in_err-push_data_part-clause-err g c =
    err_now g.S.TextSink.adds g.S.TextSink.breaks _ _ _ _ (g.met.S.TextSink.breaks_second _ _ _ _ _ c.in_ok-push_column.ensures.ok
    (g.met.S.TextSink.breaks_second _ _ _ _ _ c.in_ok-push_column-2.ensures.ok (g.met.S.TextSink.breaks_second _ _ _ _ _ c.in_ok-push_own_bytes.ensures.ok
    (g.met.S.TextSink.breaks_second _ _ _ _ _ c.in_ok-push_head.ensures.ok (g.met.S.TextSink.breaks_first _ _ _ _ c.in_err-push_data_part.ensures.err)))))

pub returns-in_err-push_content-clause-err : goal.returns-in_err-push_content-clause-err
unfolding item_line
returns-in_err-push_content-clause-err g c =
    err_now g.S.TextSink.adds g.S.TextSink.breaks _ _ _ _ (g.met.S.TextSink.breaks_second _ _ _ _ _ c.in_ok-push_column.ensures.ok
    (g.met.S.TextSink.breaks_second _ _ _ _ _ c.in_ok-push_column-2.ensures.ok (g.met.S.TextSink.breaks_second _ _ _ _ _ c.in_ok-push_own_bytes.ensures.ok
    (g.met.S.TextSink.breaks_second _ _ _ _ _ c.in_ok-push_head.ensures.ok (g.met.S.TextSink.breaks_second _ _ _ _ _ c.in_ok-push_data_part.ensures.ok
    (g.met.S.TextSink.breaks_first _ _ _ _ c.in_err-push_content.ensures.err))))))

pub returns : goal.returns
unfolding item_line
returns g c = record {
  ok = ok_then g.S.TextSink.adds g.S.TextSink.breaks g.met.S.TextSink.adds_both c.push_str.result _ _ _ _ _ c.in_ok-push_column.ensures.ok
      (ok_then g.S.TextSink.adds g.S.TextSink.breaks g.met.S.TextSink.adds_both c.push_str.result _ _ _ _ _ c.in_ok-push_column-2.ensures.ok
      (ok_then g.S.TextSink.adds g.S.TextSink.breaks g.met.S.TextSink.adds_both c.push_str.result _ _ _ _ _ c.in_ok-push_own_bytes.ensures.ok
      (ok_then g.S.TextSink.adds g.S.TextSink.breaks g.met.S.TextSink.adds_both c.push_str.result _ _ _ _ _ c.in_ok-push_head.ensures.ok
      (ok_then g.S.TextSink.adds g.S.TextSink.breaks g.met.S.TextSink.adds_both c.push_str.result _ _ _ _ _ c.in_ok-push_data_part.ensures.ok
      (ok_then g.S.TextSink.adds g.S.TextSink.breaks g.met.S.TextSink.adds_both c.push_str.result _ _ _ _ _ c.in_ok-push_content.ensures.ok
      c.push_str.ensures.ok)))));
  err = err_then g.S.TextSink.adds g.S.TextSink.breaks g.met.S.TextSink.breaks_second c.push_str.result _ _ _ _ _ c.in_ok-push_column.ensures.ok
      (err_then g.S.TextSink.adds g.S.TextSink.breaks g.met.S.TextSink.breaks_second c.push_str.result _ _ _ _ _ c.in_ok-push_column-2.ensures.ok
      (err_then g.S.TextSink.adds g.S.TextSink.breaks g.met.S.TextSink.breaks_second c.push_str.result _ _ _ _ _ c.in_ok-push_own_bytes.ensures.ok
      (err_then g.S.TextSink.adds g.S.TextSink.breaks g.met.S.TextSink.breaks_second c.push_str.result _ _ _ _ _ c.in_ok-push_head.ensures.ok
      (err_then g.S.TextSink.adds g.S.TextSink.breaks g.met.S.TextSink.breaks_second c.push_str.result _ _ _ _ _ c.in_ok-push_data_part.ensures.ok
      (err_then g.S.TextSink.adds g.S.TextSink.breaks g.met.S.TextSink.breaks_second c.push_str.result _ _ _ _ _ c.in_ok-push_content.ensures.ok
      c.push_str.ensures.err)))));
}
