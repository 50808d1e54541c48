use Rattle.std.proofs.Common.{◌∷◌, [], length}
use Rattle.kmip_ttlv_util.specs.{Diagnostics.hostile, Traces.trace}
use Rattle.kmip_ttlv_util.proofs.Saying.{err_now, ok_then, err_then}
use Rattle.ttlv_run.proofs.texts.push_diagnostic.Goals as goal

pub returns-in_err-push_diag-clause-err : goal.returns-in_err-push_diag-clause-err
returns-in_err-push_diag-clause-err g c =
    err_now g.S.TextSink.adds g.S.TextSink.breaks _ _ _ _ (g.met.S.TextSink.breaks_first _ _ _ (10 ∷ []) c.in_err-push_diag.ensures.broken)

pub returns : goal.returns
returns g c =
    let whole = hostile c.args.prefix.now c.args.closed (length c.args.message.now) (trace c.args.closed c.args.message.now) in
    record {
      ok = ok_then g.S.TextSink.adds g.S.TextSink.breaks g.met.S.TextSink.adds_both c.push_str.result _ _ _ whole (10 ∷ []) c.in_ok-push_diag.ensures.text
          c.push_str.ensures.ok;
      err = err_then g.S.TextSink.adds g.S.TextSink.breaks g.met.S.TextSink.breaks_second c.push_str.result _ _ _ whole (10 ∷ []) c.in_ok-push_diag.ensures.text
          c.push_str.ensures.err;
    }
