-- What is read of a choice whose variants have rules in parts.
use Rattle.std.specs.Prelude.{ℕ, zero, suc, ◌+◌, List, codes, Option, Some, None, Result, Ok, Err}
use Rattle.kmip_ttlv_types.specs.declared.typ.TtlvType.{TtlvType}
use Rattle.kmip_ttlv_types.specs.declared.typ.TtlvType.TheVariants.{Enumeration}
use Rattle.kmip_ttlv_base.specs.Values.{Value, newtype_variant_value}
use Rattle.kmip_ttlv_base.specs.Forms.{Variants, no_variants, variant, wrapped}
use Rattle.kmip_ttlv_reader.specs.declared.failure.Failure.{Failure}
use Rattle.kmip_ttlv_reader.specs.Reads.{is_number_type}
use Rattle.kmip_ttlv_reader.specs.ReadFaults.{in_struct}
use Rattle.kmip_ttlv_reader.specs.Results.{IsFailure}
use Rattle.kmip_ttlv_reader.specs.Rules.{Choice, chosen, number_decides}
use Rattle.kmip_ttlv_reader.specs.Outcomes.{outcome, type_wanted, length_there, length_wanted, content_there}
use Rattle.kmip_ttlv_reader.specs.Steps.{Outcome, Read, Reader, ends_early, fails, mapped, ◌>>◌}

-- the choice by the place of the first rule that holds
abbrev pub by_place : Option ℕ → Choice
by_place (Some place) = chosen place
by_place None = number_decides

-- how many variants there are
abbrev pub count_of : Variants → ℕ
count_of no_variants = 0
count_of (variant name c vs) = suc (count_of vs)

-- what the variant at a place reads, where it is of one item
abbrev pub held_outcome : List ℕ → Variants → ℕ → Reader Value
held_outcome own (variant name (wrapped s) vs) zero b o k p e = mapped (newtype_variant_value own name) (outcome s b o k p e)
held_outcome own (variant name c vs) (suc place) b o k p e = held_outcome own vs place b o k p e
held_outcome own _ place b o k p e = ends_early

-- what `number_outcome` comes to if its number names no variant: the same steps up to that point
unfoldable pub unnamed : List ℕ → ℕ → ℕ → TtlvType → Outcome (Read Value)
unnamed b o p t = do
  type_wanted (is_number_type t) Enumeration b p t
  length_there b p
  length_wanted b p 4 t (Some 4)
  content_there b p t
  fails (in_struct (p + 16) o (codes "unknown variant"))

-- the result is a failure, and the outcome is the same
abbrev pub IsFailed : {X A : Type 0} → Outcome (Read Value) → Result X (Failure A) → Type 0
IsFailed o (Ok x) = ⊥
IsFailed o (Err r) = IsFailure o r
