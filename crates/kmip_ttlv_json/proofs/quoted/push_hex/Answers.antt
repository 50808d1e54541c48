use Rattle.std.proofs.Common.{◌≡◌, ℕ, List, ◌<◌, get_or, arith}
use Rattle.kmip_ttlv_types.specs.declared.typ.TtlvType.TheVariants.{ByteString}
use Rattle.kmip_ttlv_util.specs.Pretty.{value_shown}
use Rattle.kmip_ttlv_util.proofs.Saying.{ok_same, err_same}
use Rattle.hex.specs.Hex.{encode_upper}
use Rattle.kmip_ttlv_json.proofs.Hexadecimal.{hex_upper}
use Rattle.kmip_ttlv_json.proofs.quoted.push_hex.Goals as goal

shown_upper : (m : List ℕ) → ((k : ℕ) → get_or m k 0 < 256) → value_shown ByteString m ≡ encode_upper m
unfolding value_shown
shown_upper m plain = hex_upper m plain

pub returns : goal.returns
returns g c =
    let is = shown_upper c.args.bytes.now (λ k. omega (arith, c.type_inv.bytes k)) in
    record {
      ok = ok_same g.S.TextSink.adds g.S.TextSink.breaks c.push_value.result _ _ _ _ c.push_value.ensures.ok is;
      err = err_same g.S.TextSink.adds g.S.TextSink.breaks c.push_value.result _ _ _ _ c.push_value.ensures.err is;
    }
