use Rattle.std.proofs.Common.{List, ℕ, refl, subst}
use Rattle.std.specs.Prelude.{true, string_bytes}
use Rattle.kmip_ttlv_util.specs.CheckedDiagnostics.{ShowsMessage}
use Rattle.kmip_ttlv_c.specs.{Buffers.Offers, Buffers.offers, Buffers.refuses, Calls.not_whole}
use Rattle.kmip_ttlv_c.proofs.calls.kmip_ttlv_to_diag_checked.Goals as goal

pub returns-in-Err-Malformed : goal.returns-in-Err-Malformed
returns-in-Err-Malformed c = refuses (not_whole c.in-Err-Malformed.found c.in-Ok.ensures.cases.1
    (rw c.in-Err-Malformed.field-0-is at c.in-Err-Malformed.ensures.err) refl
    c.fault_of-in-Err-Malformed.ensures) refl refl

pub returns : goal.returns
returns c = offers (string_bytes c.in-Ok-checked_diagnostic.text) record {
  utf8 = c.in-Ok.ensures.cases.1;
  shows = subst (λ (p : List ℕ). ShowsMessage p true c.args.bytes.now (string_bytes c.in-Ok-checked_diagnostic.text)) c.in-Ok.ensures.cases.0
      c.in-Ok-checked_diagnostic.ensures.ok;
  no_fault = c.fault_of.ensures;
}
    (subst (λ (t : List ℕ). Offers t c.offer.result c.offer.new.length c.args.out.now c.offer.new.out) c.as_bytes.ensures.value c.offer.ensures)
