-- Attributes that a request has by tags.
use Rattle.std.specs.Prelude.{◌≡◌, Bool, [], Option, Some, None, Result, Ok, true}
use Rattle.kmip_ttlv_base.specs.declared.error.Error.{Error}
use Rattle.kmip_ttlv_parts.specs.declared.kept.Kept.{Kept}
use Rattle.kmip_attribute_set.specs.declared.attributes.Attributes.{Attributes}

-- these are the attributes that a request has as these items, by tags, which only one of KMIP 2.0 has; none without items
abbrev pub AreGiven : {A : Type 0} → (Kept A → Result (Attributes A) (Error A) → Type 0) → Bool → Option (Kept A) → Attributes A → Type 0
AreGiven IsOfTags by_tags (Some items) given = (by_tags ≡ true) × IsOfTags items (Ok given)
AreGiven IsOfTags by_tags None given = given.list.items ≡ []
