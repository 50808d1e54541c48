-- Written by codegen from types.table: change that, and run codegen/codegen.
-- The numbers of Enumerations of listed numbers, and of constants.
use Rattle.std.specs.Prelude.{List, Some, codes, refl, ℕ, [], ◌∷◌, ◌≡◌}
use Rattle.kmip_ttlv_parts.specs.Forms.{Variants, no_variants, unit, variant}
use Rattle.kmip_ttlv_parts.specs.Names.{number}
use Rattle.kmip_ttlv_parts.specs.Rules.{rule}
use Rattle.kmip_ttlv_parts.proofs.MessageParts.{IsUnit}
use Rattle.kmip_ttlv_parts.proofs.Equal.{found_same, row_of}
use Rattle.ttlv_vectors.specs.declared.leaves.Kind.{Kind}
use Rattle.ttlv_vectors.specs.declared.leaves.Kind.TheVariants as kind
use Rattle.ttlv_vectors.specs.declared.message.EveryConstant.{EveryConstant}
use Rattle.ttlv_vectors.specs.declared.message.EveryConstant.TheVariants as every_constant
use Rattle.ttlv_vectors.specs.declared.query.ObjectType.{ObjectType}
use Rattle.ttlv_vectors.specs.declared.query.ObjectType.TheVariants as object_type
use Rattle.ttlv_vectors.specs.declared.query.ResultStatus.{ResultStatus}
use Rattle.ttlv_vectors.specs.declared.query.ResultStatus.TheVariants as result_status

-- the numbers of `Kind`
abbrev pub kind_variants : Variants
kind_variants =
    variant (codes "0x00000001") unit (
    variant (codes "0x00000002") unit no_variants)

-- the number of each
abbrev pub kind_number : Kind → List ℕ
kind_number kind.First = codes "0x00000001"
kind_number kind.Second = codes "0x00000002"

pub kind_is_unit : (x : Kind) → IsUnit kind_variants (kind_number x)
unfolding number rule
kind_is_unit kind.First = record { n = 0x00000001; numbered = refl; text = refl; units = λ k. record { no_rule = refl; named = refl } }
kind_is_unit kind.Second = record { n = 0x00000002; numbered = refl; text = refl; units = λ k. record { no_rule = refl; named = refl } }

abbrev kind_rows : List (List ℕ × Kind)
kind_rows =
    (codes "0x00000001", kind.First) ∷
    (codes "0x00000002", kind.Second) ∷
    []

kind_found : (x : Kind) → row_of (kind_number x) kind_rows ≡ Some x
kind_found kind.First = refl
kind_found kind.Second = refl

pub kind_same : (x y : Kind) → kind_number x ≡ kind_number y → x ≡ y
kind_same x y e = found_same kind_number kind_rows kind_found x y e

-- the numbers of `EveryConstant`
abbrev pub every_constant_variants : Variants
every_constant_variants =
    variant (codes "0x00000001") unit no_variants

-- the number of each
abbrev pub every_constant_number : EveryConstant → List ℕ
every_constant_number every_constant.Only = codes "0x00000001"

pub every_constant_is_unit : (x : EveryConstant) → IsUnit every_constant_variants (every_constant_number x)
unfolding number rule
every_constant_is_unit every_constant.Only = record { n = 0x00000001; numbered = refl; text = refl; units = λ k. record { no_rule = refl; named = refl } }

-- the numbers of `ObjectType`
abbrev pub object_type_variants : Variants
object_type_variants =
    variant (codes "0x00000001") unit (
    variant (codes "0x00000002") unit no_variants)

-- the number of each
abbrev pub object_type_number : ObjectType → List ℕ
object_type_number object_type.Certificate = codes "0x00000001"
object_type_number object_type.SymmetricKey = codes "0x00000002"

pub object_type_is_unit : (x : ObjectType) → IsUnit object_type_variants (object_type_number x)
unfolding number rule
object_type_is_unit object_type.Certificate = record { n = 0x00000001; numbered = refl; text = refl; units = λ k. record { no_rule = refl; named = refl } }
object_type_is_unit object_type.SymmetricKey = record { n = 0x00000002; numbered = refl; text = refl; units = λ k. record { no_rule = refl; named = refl } }

abbrev object_type_rows : List (List ℕ × ObjectType)
object_type_rows =
    (codes "0x00000001", object_type.Certificate) ∷
    (codes "0x00000002", object_type.SymmetricKey) ∷
    []

object_type_found : (x : ObjectType) → row_of (object_type_number x) object_type_rows ≡ Some x
object_type_found object_type.Certificate = refl
object_type_found object_type.SymmetricKey = refl

pub object_type_same : (x y : ObjectType) → object_type_number x ≡ object_type_number y → x ≡ y
object_type_same x y e = found_same object_type_number object_type_rows object_type_found x y e

-- the numbers of `ResultStatus`
abbrev pub result_status_variants : Variants
result_status_variants =
    variant (codes "0x00000001") unit (
    variant (codes "0x00000002") unit (
    variant (codes "0x00000003") unit no_variants))

-- the number of each
abbrev pub result_status_number : ResultStatus → List ℕ
result_status_number result_status.Failed = codes "0x00000001"
result_status_number result_status.Pending = codes "0x00000002"
result_status_number result_status.Undone = codes "0x00000003"

pub result_status_is_unit : (x : ResultStatus) → IsUnit result_status_variants (result_status_number x)
unfolding number rule
result_status_is_unit result_status.Failed = record { n = 0x00000001; numbered = refl; text = refl; units = λ k. record { no_rule = refl; named = refl } }
result_status_is_unit result_status.Pending = record { n = 0x00000002; numbered = refl; text = refl; units = λ k. record { no_rule = refl; named = refl } }
result_status_is_unit result_status.Undone = record { n = 0x00000003; numbered = refl; text = refl; units = λ k. record { no_rule = refl; named = refl } }

abbrev result_status_rows : List (List ℕ × ResultStatus)
result_status_rows =
    (codes "0x00000001", result_status.Failed) ∷
    (codes "0x00000002", result_status.Pending) ∷
    (codes "0x00000003", result_status.Undone) ∷
    []

result_status_found : (x : ResultStatus) → row_of (result_status_number x) result_status_rows ≡ Some x
result_status_found result_status.Failed = refl
result_status_found result_status.Pending = refl
result_status_found result_status.Undone = refl

pub result_status_same : (x y : ResultStatus) → result_status_number x ≡ result_status_number y → x ≡ y
result_status_same x y e = found_same result_status_number result_status_rows result_status_found x y e
