-- The leaves that a walk meets lie among the bytes, and their values are those of their types; and so does a fault.
use Rattle.std.proofs.Common.{ℕ, ◌≤◌, List, ◌∷◌, length, Some, ap, sym, ◌∙◌, arith}
use Rattle.kmip_ttlv_types.specs.{Leaves.is_valid, Places.length_at}
use Rattle.kmip_ttlv_items.specs.declared.found.{FoundItem.FoundItem, Fault.Fault}
use Rattle.kmip_ttlv_items.specs.ItemWalks.{content_at, IsWhole, StopsAt, at_root, inside, behind, Ended}
use Rattle.kmip_ttlv_items.proofs.Spans.{size_least, own_least, own_leaf}
use Rattle.kmip_ttlv_items.proofs.Walks.{walked}
use Rattle.ttlv_run.specs.Items.{IsGood}

-- an item that is whole
pub whole_good : (w : List ℕ) (p e depth : ℕ) (i : FoundItem) → IsWhole w p e depth i → IsGood w i
whole_good w p e depth i h = record {
  head = omega (arith, h.offset, h.there, own_least i.typ i.length);
  within = λ ne. omega (arith, h.offset, h.there, own_leaf i.typ i.length ne, size_least i.typ i.length);
  len = h.len ∙ ap (length_at w) (sym h.offset);
  valid = λ ne. ap (λ (q : ℕ). is_valid i.typ (content_at w q)) h.offset ∙ h.valid ne;
}

-- a fault lies among the bytes
pub fault_within : (w : List ℕ) (xs : List FoundItem) (f : Fault) → Ended w xs (Some f) → f.offset ≤ length w
fault_within w xs f h = by h.0
  where
    by : StopsAt w xs f → f.offset ≤ length w
    by (at_root none at wrong) = omega (arith, at)
    by (inside e es walks lt wrong) = (walked w f.offset (e ∷ es) xs walks).here
    by (behind walks lt is) = omega (arith, lt)
