use Rattle.std.specs.Prelude.{codes}
use Rattle.kmip_ttlv_util.proofs.Saying.{err_now, ok_then, err_then}
use Rattle.ttlv_run.specs.Escapes.{number_hex}
use Rattle.ttlv_run.proofs.escape.push_by_number.Goals as goal

pub returns-in_err-append-clause-err : goal.returns-in_err-append-clause-err
returns-in_err-append-clause-err g c =
    err_now g.S.PlainSink.adds g.S.PlainSink.breaks _ _ _ _ (g.met.S.PlainSink.breaks_first _ _ (codes "\\u{") _ c.in_err-append.ensures.err)

pub returns-in_err-push_number_hex-clause-err : goal.returns-in_err-push_number_hex-clause-err
returns-in_err-push_number_hex-clause-err g c =
    err_now g.S.PlainSink.adds g.S.PlainSink.breaks _ _ _ _ (g.met.S.PlainSink.breaks_second _ _ _ (codes "\\u{") _ c.in_ok-append.ensures.ok
    (g.met.S.PlainSink.breaks_first _ _ (number_hex c.args.c) _ c.in_err-push_number_hex.ensures.err))

pub returns : goal.returns
returns g c = record {
  ok = ok_then g.S.PlainSink.adds g.S.PlainSink.breaks g.met.S.PlainSink.adds_both c.append-2.result _ _ _ (codes "\\u{") _ c.in_ok-append.ensures.ok
      (ok_then g.S.PlainSink.adds g.S.PlainSink.breaks g.met.S.PlainSink.adds_both c.append-2.result _ _ _ (number_hex c.args.c)
      (codes "}") c.in_ok-push_number_hex.ensures.ok c.append-2.ensures.ok);
  err = err_then g.S.PlainSink.adds g.S.PlainSink.breaks g.met.S.PlainSink.breaks_second c.append-2.result _ _ _ (codes "\\u{") _ c.in_ok-append.ensures.ok
      (err_then g.S.PlainSink.adds g.S.PlainSink.breaks g.met.S.PlainSink.breaks_second c.append-2.result _ _ _ (number_hex c.args.c)
      (codes "}") c.in_ok-push_number_hex.ensures.ok c.append-2.ensures.err);
}
