-- Tables of Enumerations' numbers.
use Rattle.std.specs.Prelude.{◌≡◌, ℕ, List, [], ◌∷◌, Option, Some, None, codes}
use Rattle.std.specs.Borrow.{Bor}
use Rattle.kmip_ttlv_types.specs.Names.{after_prefix}
use Rattle.kmip_ttlv_base.specs.Values.{Value, unit_variant_value}
use Rattle.kmip_ttlv_base.specs.Forms.{Variants, no_variants, variant, Content, unit}

-- the rows are these variants in their order, units whose names are no rules, each with the value that it is read as
abbrev pub AreListed : {T : Type 0} → List ℕ → (T → Value) → Variants → List (Bor (List ℕ) × T) → Type 0
AreListed own as_value no_variants [] = Unit {0}
AreListed own as_value (variant name unit vs) (row ∷ rows) =
    (name ≡ row.0.now)
    × (after_prefix (codes "if ") name ≡ None) × (as_value row.1 ≡ unit_variant_value own name) × AreListed own as_value vs rows
AreListed own as_value _ _ = ⊥

-- a row of this name, and its value, where a variant has the name
abbrev pub IsRowNamed : {T : Type 0} → List ℕ → (T → Value) → List ℕ → Option Content → Option (Bor (List ℕ) × T) → Type 0
IsRowNamed own as_value name found (Some row) =
    (found ≡ Some unit) × (row.0.now ≡ name) × (as_value row.1 ≡ unit_variant_value own name)
IsRowNamed own as_value name found None = found ≡ None
