use Rattle.std.proofs.Common.{◌≡◌, eqb, codes, arith, subst}
use Rattle.std.specs.List.{starts_with}
use Rattle.kmip_ttlv_ser.specs.WrittenItems.{is_wrapper}
use Rattle.kmip_ttlv_ser.proofs.Prefixes.{whole_prefix}
use Rattle.kmip_ttlv_ser.proofs.names.is_wrapper.Goals as goal

pub returns : goal.returns
unfolding is_wrapper
returns c =
    let begins = subst (λ s. c.begins.result ≡ starts_with eqb s (codes "Transparent")) c.as_bytes.ensures.value c.begins.ensures in
    whole_prefix c.begins.result (codes "Transparent") c.args.variant.now begins (omega (arith, c.if-variant-ne11.false))
