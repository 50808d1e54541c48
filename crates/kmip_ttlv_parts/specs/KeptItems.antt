-- What a structure is that is kept as its items.
use Rattle.std.specs.Prelude.{ℕ, List, [], ◌∷◌, Option, Some, None}
use Rattle.kmip_ttlv_types.specs.Places.{tag_at}
use Rattle.kmip_ttlv_base.specs.Values.{Values}
use Rattle.kmip_ttlv_parts.specs.Kept.{kept_values}
use Rattle.kmip_ttlv_parts.specs.declared.kept.Kept.{Kept}

-- the bytes of its items
abbrev pub bytes_kept : {A : Type 0} → Kept A → List ℕ
bytes_kept k = k.items.items

-- their values
abbrev pub values_kept : {A : Type 0} → Kept A → Values
values_kept k = kept_values k.items.items

-- the tag of the item that bytes begin with, if there are any
abbrev pub first_tag : List ℕ → Option ℕ
first_tag [] = None
first_tag (x ∷ b) = Some (tag_at (x ∷ b) 0)

-- the tag of its first item, if it has any
abbrev pub first_kept : {A : Type 0} → Kept A → Option ℕ
first_kept k = first_tag k.items.items
