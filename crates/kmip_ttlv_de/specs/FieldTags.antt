-- The tags of a struct's fields, as a set of numbers.
use Rattle.std.specs.Prelude.{◌≡◌, ℕ}
use Rattle.std.specs.Ordering.{nat_cmp}
use Rattle.std.specs.BTreeSet.{BTreeSet, contains}
use Rattle.kmip_ttlv_base.specs.Forms.{Fields}
use Rattle.kmip_ttlv_reader.specs.Reads.{names_tag}

-- a set has a number exactly where some field has that tag
abbrev pub HasTagsOf : Fields → BTreeSet ℕ → Type 0
HasTagsOf fs tags = (t : ℕ) → contains nat_cmp tags t ≡ names_tag fs t
