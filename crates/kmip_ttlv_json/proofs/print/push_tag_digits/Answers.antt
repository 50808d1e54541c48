use Rattle.std.proofs.Common.{List, ℕ, ap}
use Rattle.std.specs.Prelude.{codes, ◌++◌}
use Rattle.hex.specs.Hex.{encode_upper}
use Rattle.kmip_ttlv_util.proofs.Saying.{err_now, ok_same, err_same, ok_then, err_then}
use Rattle.kmip_ttlv_json.proofs.print.push_tag_digits.Goals as goal

pub returns-in_err-push_str-clause-err : goal.returns-in_err-push_str-clause-err
returns-in_err-push_str-clause-err g c = err_now g.S.TextSink.adds g.S.TextSink.breaks _ _ _ _
    (g.met.S.TextSink.breaks_first _ _ (codes "{\"tag\":\"0x") _ c.in_err-push_str.ensures.err)

pub returns : goal.returns
returns g c =
    let same = ap (λ (s : List ℕ). codes "{\"tag\":\"0x" ++ encode_upper s) c.into-bytes.ensures in
    record {
      ok = ok_same g.S.TextSink.adds g.S.TextSink.breaks c.push_hex.result _ _ _ _
          (ok_then g.S.TextSink.adds g.S.TextSink.breaks g.met.S.TextSink.adds_both c.push_hex.result _ _ _ (codes "{\"tag\":\"0x") _
          c.in_ok-push_str.ensures.ok c.push_hex.ensures.ok) same;
      err = err_same g.S.TextSink.adds g.S.TextSink.breaks c.push_hex.result _ _ _ _
          (err_then g.S.TextSink.adds g.S.TextSink.breaks g.met.S.TextSink.breaks_second c.push_hex.result _ _ _ (codes "{\"tag\":\"0x") _
          c.in_ok-push_str.ensures.ok c.push_hex.ensures.err) same;
    }
