-- The attributes so far are those of the items so far.
use Rattle.std.proofs.Common.{◌≡◌, ℕ, ◌-◌, length}
use Rattle.kmip_ttlv_base.specs.Values.{Values}
use Rattle.kmip_ttlv_reader.specs.Outcomes.{any_outcome, each_outcome}
use Rattle.kmip_ttlv_reader.specs.Reads.{most_levels}
use Rattle.kmip_ttlv_reader.proofs.AnyItems.{With}
use Rattle.kmip_ttlv_parts.specs.Kept.{items_outcome}
use Rattle.kmip_ttlv_parts.specs.KeptItems.{values_kept}
use Rattle.kmip_attribute_set.specs.Tags.{Writings, structure_under, value_under}
use Rattle.kmip_attribute_set.proofs.Naming.{Completes}
use Rattle.kmip_attribute_set.proofs.items.raw.Given as goal

abbrev pub invariant-items : goal.invariant-items
invariant-items g l = (n : ℕ) × (front : (Values → Values))
    × With (items_outcome l.bytes 0 (length l.bytes)) front (each_outcome n (any_outcome most_levels) l.bytes l.next (length l.bytes))
    × ((w : Writings _) → w.other ≡ values_kept → Completes (value_under (structure_under w)) front l.list.items)

abbrev pub decreases-items : goal.decreases-items
decreases-items g l = l.end - l.next
