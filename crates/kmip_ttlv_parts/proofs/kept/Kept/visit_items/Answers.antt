use Rattle.std.proofs.Common.{◌≡◌, ◌∙◌, sym, subst, length}
use Rattle.kmip_ttlv_base.specs.Visits.{ReceivesEach}
use Rattle.kmip_ttlv_reader.specs.Steps.{gives}
use Rattle.kmip_ttlv_parts.specs.Kept.{items_outcome, kept_values}
use Rattle.kmip_ttlv_parts.proofs.{KeptLemmas.kept_read, Results.on_ok_map}
use Rattle.kmip_ttlv_parts.proofs.kept.Kept.visit_items.Goals as goal

pub visit_items-requires : goal.visit_items-requires
visit_items-requires g c =
    record { there = (kept_values c.args.self.now.items.items, rw c.as_slice-bytes.ensures.value (kept_read c.args.self.now.items.items c.args.self.now.kept)) }

pub returns-clause-received : goal.returns-clause-received
returns-clause-received g c =
    let b = c.args.self.now.items.items in
    on_ok_map c.visit_items.result (λ h.
    let is : items_outcome b 0 (length b) ≡ gives h.0 = rw (← c.as_slice-bytes.ensures.value) h.1 in
    let same : h.0 ≡ kept_values b = let e : gives h.0 ≡ gives (kept_values b) = sym is ∙ kept_read b c.args.self.now.kept in cc in
    subst (λ vs. ReceivesEach g.V.Visitor.knows g.V.Visitor.step vs c.args.visitor.now c.visit_items.new.visitor) same h.2) c.visit_items.ensures.visited
