use Rattle.std.proofs.Common.{List, ℕ, refl, subst}
use Rattle.std.specs.Prelude.{string_bytes}
use Rattle.kmip_ttlv_c.specs.{Buffers.Offers, Buffers.offers, Buffers.refuses, Calls.no_message}
use Rattle.kmip_ttlv_c.proofs.calls.kmip_ttlv_to_redacted_text.Goals as goal

pub returns-in-Err-Malformed : goal.returns-in-Err-Malformed
returns-in-Err-Malformed c = refuses (no_message c.in-Err-Malformed.found (rw c.in-Err-Malformed.field-0-is at c.in-Err-Malformed.ensures.err) refl
    c.fault_of-in-Err-Malformed.ensures) refl refl

pub returns : goal.returns
returns c = offers (string_bytes c.in-Ok.text) record { shows = c.in-Ok.ensures.ok; no_fault = c.fault_of.ensures }
    (subst (λ (t : List ℕ). Offers t c.offer.result c.offer.new.length c.args.out.now c.offer.new.out) c.as_bytes.ensures.value c.offer.ensures)
