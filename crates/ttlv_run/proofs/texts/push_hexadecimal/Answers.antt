use Rattle.std.proofs.Common.{◌≡◌, ◌∷◌, [], ℕ, List, get_or, ◌<◌, arith}
use Rattle.kmip_ttlv_types.specs.declared.typ.TtlvType.TheVariants.{ByteString}
use Rattle.kmip_ttlv_util.specs.Pretty.{value_shown}
use Rattle.kmip_ttlv_util.proofs.Saying.{adds_same, breaks_same, err_now, ok_then, err_then}
use Rattle.hex.specs.Hex.{encode_upper}
use Rattle.kmip_ttlv_json.proofs.Hexadecimal.{hex_upper}
use Rattle.ttlv_run.proofs.texts.push_hexadecimal.Goals as goal

shown_upper : (m : List ℕ) → ((k : ℕ) → get_or m k 0 < 256) → value_shown ByteString m ≡ encode_upper m
unfolding value_shown
shown_upper m plain = hex_upper m plain

pub returns-in_err-push_value-clause-err : goal.returns-in_err-push_value-clause-err
returns-in_err-push_value-clause-err g c =
    let m = c.args.message.now in
    let is = shown_upper m (λ k. omega (arith, c.type_inv.message k)) in
    err_now g.S.TextSink.adds g.S.TextSink.breaks _ _ _ _ (g.met.S.TextSink.breaks_first _ _ (encode_upper m) (10 ∷ [])
    (breaks_same g.S.TextSink.adds g.S.TextSink.breaks _ _ _ _ c.in_err-push_value.ensures.err is))

pub returns : goal.returns
returns g c =
    let m = c.args.message.now in
    let is = shown_upper m (λ k. omega (arith, c.type_inv.message k)) in
    let digits = adds_same g.S.TextSink.adds g.S.TextSink.breaks _ _ _ _ c.in_ok-push_value.ensures.ok is in
    record {
      ok = ok_then g.S.TextSink.adds g.S.TextSink.breaks g.met.S.TextSink.adds_both c.push_str.result _ _ _ (encode_upper m)
          (10 ∷ []) digits c.push_str.ensures.ok;
      err = err_then g.S.TextSink.adds g.S.TextSink.breaks g.met.S.TextSink.breaks_second c.push_str.result _ _ _ (encode_upper m)
          (10 ∷ []) digits c.push_str.ensures.err;
    }
