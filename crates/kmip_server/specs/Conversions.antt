-- A structure as another type.
use Rattle.std.specs.Prelude.{◌≡◌, Bool, ℕ, Result}
use Rattle.kmip_ttlv_base.specs.Forms.{Fields}
use Rattle.kmip_ttlv_base.specs.Values.{Values}
use Rattle.kmip_ttlv_base.specs.declared.error.Error.{Error}
use Rattle.kmip_ttlv_reader.specs.Spots.{structure_form, structure_value}
use Rattle.kmip_ttlv_kinds.specs.Laws.{IsReadFrom}
use Rattle.kmip_ttlv_kinds.specs.Parts.{within}

-- what a structure is as another type under this tag, as `convert` says: by what is written of the one, and by the fields and the values of the other
abbrev pub Converts : {S T A : Type 0} → (S → Values) → Fields → Bool → (T → Values) → ℕ → S → Result T (Error A) → Type 0
Converts written fields closed values tag structure r =
    IsReadFrom (structure_value tag (within written) structure) (structure_form tag fields closed) (structure_value tag (within values)) r

-- what is decoded of a value that is taken
pub record TakesAs {S R : Type 0} (Reads : S → R → Type 0) (old : S) (r : R) : Type 0 where
  pub taken : S
  pub is : taken ≡ old
  pub reads : Reads taken r
