use Rattle.std.proofs.Common.{List, ℕ, ◌≤◌, length, refl, subst}
use Rattle.kmip_ttlv_json.specs.Readings.{IsReadAs, FailsToRead, error_offset}
use Rattle.kmip_ttlv_c.specs.{Buffers.Offers, Buffers.offers, Buffers.refuses, JsonTexts.unread}
use Rattle.kmip_ttlv_c.proofs.json_text.kmip_ttlv_from_json.Goals as goal

pub returns-in-Ok-from_json : goal.returns-in-Ok-from_json
returns-in-Ok-from_json c = offers c.in-Ok-from_json.message.items record {
  utf8 = c.in-Ok.ensures.cases.1;
  read = subst (λ (t : List ℕ). IsReadAs t c.in-Ok-from_json.message.items) c.in-Ok.ensures.cases.0 c.in-Ok-from_json.ensures.ok;
  no_fault = c.fault_of.ensures;
}
    (subst (λ (t : List ℕ). Offers t c.offer.result c.offer.new.length c.args.out.now c.offer.new.out) c.as_slice.ensures.value c.offer.ensures)

pub returns-in-Err : goal.returns-in-Err
returns-in-Err c = refuses (unread c.in-Err.error c.in-Ok.ensures.cases.1
    (subst (λ (t : List ℕ). FailsToRead t c.in-Err.error) c.in-Ok.ensures.cases.0 c.in-Err.ensures.err)
    (subst (λ (t : List ℕ). error_offset c.in-Err.error ≤ length t) c.in-Ok.ensures.cases.0 c.in-Err.ensures.within)
    c.status_of.ensures c.json_fault_of.ensures) refl refl
