use Rattle.std.proofs.Common.{◌≡◌, ◌-◌, List, ℕ, length, take, ap, refl, sym, subst, ◌∙◌}
use Rattle.kmip_ttlv_c.specs.{Buffers.Offers, Buffers.offers, Buffers.refuses, JsonTexts.message_json, JsonTexts.not_whole, JsonTexts.no_memory}
use Rattle.kmip_ttlv_c.proofs.Lines.{before_feed}
use Rattle.kmip_ttlv_c.proofs.json_text.kmip_ttlv_to_json.Goals as goal

pub returns-in-Err-OutOfMemory : goal.returns-in-Err-OutOfMemory
returns-in-Err-OutOfMemory c = refuses (no_memory c.in-Some.hiding (sym c.hiding_of.ensures ∙ c.in-Some.is) refl c.fault_of.ensures) refl refl

pub returns-in-Err-Malformed : goal.returns-in-Err-Malformed
returns-in-Err-Malformed c = refuses (not_whole c.in-Some.hiding c.in-Err-Malformed.found (sym c.hiding_of.ensures ∙ c.in-Some.is)
    (rw c.in-Err-Malformed.field-0-is at c.in-Err-Malformed.ensures.err) refl c.fault_of-in-Err-Malformed.ensures) refl refl

pub returns : goal.returns
returns c =
    let shows = c.in-Ok.ensures.ok in
    let json = message_json c.in-Some.hiding shows.message in
    let line = c.as_bytes.result.now in
    let len : c.len.result ≡ length line = c.len.ensures ∙ sym c.as_bytes.ensures.len in
    let is : take (c.len.result - 1) line ≡ json =
    ap (λ (n : ℕ). take (n - 1) line) len ∙ before_feed line json (c.as_bytes.ensures.value ∙ shows.is) in
    offers json record {
      hiding = c.in-Some.hiding;
      hidden = sym c.hiding_of.ensures ∙ c.in-Some.is;
      message = shows.message;
      whole = shows.whole;
      root = shows.root;
      is = refl;
      no_fault = c.fault_of.ensures;
    }
    (subst (λ (t : List ℕ). Offers t c.offer.result c.offer.new.length c.args.out.now c.offer.new.out) is c.offer.ensures)
