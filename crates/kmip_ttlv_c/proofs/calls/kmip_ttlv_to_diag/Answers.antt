use Rattle.std.proofs.Common.{List, ℕ, subst}
use Rattle.std.specs.Prelude.{not, string_bytes}
use Rattle.kmip_ttlv_c.specs.{Buffers.Offers, Buffers.offers, Calls.IsDiagnostic}
use Rattle.kmip_ttlv_c.proofs.calls.kmip_ttlv_to_diag.Goals as goal

pub returns : goal.returns
returns c = offers (string_bytes c.in-Ok-diagnostic.text)
    (subst (λ (p : List ℕ). IsDiagnostic p (not c.args.open_empty) c.args.bytes.now c.in-Ok-diagnostic.count (string_bytes c.in-Ok-diagnostic.text))
    c.in-Ok.ensures.cases.0 c.in-Ok-diagnostic.ensures)
    (subst (λ (t : List ℕ). Offers t c.offer.result c.offer.new.length c.args.out.now c.offer.new.out) c.as_bytes.ensures.value c.offer.ensures)
