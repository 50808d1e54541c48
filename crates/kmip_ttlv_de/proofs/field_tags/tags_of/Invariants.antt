use Rattle.std.proofs.Common.{◌≡◌, ℕ, ◌||◌, drop}
use Rattle.std.specs.{Ordering.nat_cmp, BTreeSet.contains}
use Rattle.kmip_ttlv_base.specs.Forms.{fields_of}
use Rattle.kmip_ttlv_reader.specs.Reads.{names_tag}
use Rattle.kmip_ttlv_de.proofs.field_tags.tags_of.Given as goal

abbrev pub invariant-loop-field : goal.invariant-loop-field
invariant-loop-field g l = (t : ℕ) → (contains nat_cmp l.tags t || names_tag (fields_of (drop l.field-index l.fields)) t) ≡ names_tag (fields_of l.fields) t
