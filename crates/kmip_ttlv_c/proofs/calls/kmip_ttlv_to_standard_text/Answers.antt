use Rattle.std.proofs.Common.{List, ℕ, Option, subst}
use Rattle.std.specs.Prelude.{not, string_bytes}
use Rattle.kmip_ttlv_c.specs.{Buffers.Offers, Buffers.offers, Calls.IsReadable}
use Rattle.kmip_ttlv_c.proofs.calls.kmip_ttlv_to_standard_text.Goals as goal

pub returns : goal.returns
returns c = offers (string_bytes c.in-Ok-text_named.text)
    (subst (λ (names : ℕ → Option (List ℕ)). IsReadable names (not c.args.open_empty) c.args.bytes.now (string_bytes c.in-Ok-text_named.text))
    c.in-Ok.ensures.names
    record { printed = c.in-Ok-text_named.ensures.printed; pretty = c.in-Ok-text_named.ensures.pretty })
    (subst (λ (t : List ℕ). Offers t c.offer.result c.offer.new.length c.args.out.now c.offer.new.out) c.as_bytes.ensures.value c.offer.ensures)
