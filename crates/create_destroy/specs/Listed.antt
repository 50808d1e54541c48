-- Written by codegen from types.table: change that, and run codegen/codegen.
-- The numbers of Enumerations of listed numbers, and of constants.
use Rattle.std.specs.Prelude.{List, Some, codes, refl, ℕ, [], ◌∷◌, ◌≡◌}
use Rattle.kmip_ttlv_parts.specs.Forms.{Variants, no_variants, unit, variant}
use Rattle.kmip_ttlv_parts.specs.Names.{number}
use Rattle.kmip_ttlv_parts.specs.Rules.{rule}
use Rattle.kmip_ttlv_parts.proofs.MessageParts.{IsUnit}
use Rattle.kmip_ttlv_parts.proofs.Equal.{found_same, row_of}
use Rattle.create_destroy.specs.declared.operation.Operation.{Operation}
use Rattle.create_destroy.specs.declared.operation.Operation.TheVariants as operation
use Rattle.create_destroy.specs.declared.attribute.AttributeValueAes.{AttributeValueAes}
use Rattle.create_destroy.specs.declared.attribute.AttributeValueAes.TheVariants as attribute_value_aes
use Rattle.create_destroy.specs.declared.request.CreatePayloadObjectType.{CreatePayloadObjectType}
use Rattle.create_destroy.specs.declared.request.CreatePayloadObjectType.TheVariants as create_payload_object_type
use Rattle.create_destroy.specs.declared.response.CreatedObjectType.{CreatedObjectType}
use Rattle.create_destroy.specs.declared.response.CreatedObjectType.TheVariants as created_object_type
use Rattle.create_destroy.specs.declared.response.ResponseItemResultStatus.{ResponseItemResultStatus}
use Rattle.create_destroy.specs.declared.response.ResponseItemResultStatus.TheVariants as response_item_result_status

-- the numbers of `Operation`
abbrev pub operation_variants : Variants
operation_variants =
    variant (codes "0x00000001") unit (
    variant (codes "0x00000014") unit no_variants)

-- the number of each
abbrev pub operation_number : Operation → List ℕ
operation_number operation.Create = codes "0x00000001"
operation_number operation.Destroy = codes "0x00000014"

pub operation_is_unit : (x : Operation) → IsUnit operation_variants (operation_number x)
unfolding number rule
operation_is_unit operation.Create = record { n = 0x00000001; numbered = refl; text = refl; units = λ k. record { no_rule = refl; named = refl } }
operation_is_unit operation.Destroy = record { n = 0x00000014; numbered = refl; text = refl; units = λ k. record { no_rule = refl; named = refl } }

abbrev operation_rows : List (List ℕ × Operation)
operation_rows =
    (codes "0x00000001", operation.Create) ∷
    (codes "0x00000014", operation.Destroy) ∷
    []

operation_found : (x : Operation) → row_of (operation_number x) operation_rows ≡ Some x
operation_found operation.Create = refl
operation_found operation.Destroy = refl

pub operation_same : (x y : Operation) → operation_number x ≡ operation_number y → x ≡ y
operation_same x y e = found_same operation_number operation_rows operation_found x y e

-- the numbers of `AttributeValueAes`
abbrev pub attribute_value_aes_variants : Variants
attribute_value_aes_variants =
    variant (codes "0x00000003") unit no_variants

-- the number of each
abbrev pub attribute_value_aes_number : AttributeValueAes → List ℕ
attribute_value_aes_number attribute_value_aes.Only = codes "0x00000003"

pub attribute_value_aes_is_unit : (x : AttributeValueAes) → IsUnit attribute_value_aes_variants (attribute_value_aes_number x)
unfolding number rule
attribute_value_aes_is_unit attribute_value_aes.Only = record { n = 0x00000003; numbered = refl; text = refl; units = λ k. record { no_rule = refl; named = refl } }

-- the numbers of `CreatePayloadObjectType`
abbrev pub create_payload_object_type_variants : Variants
create_payload_object_type_variants =
    variant (codes "0x00000002") unit no_variants

-- the number of each
abbrev pub create_payload_object_type_number : CreatePayloadObjectType → List ℕ
create_payload_object_type_number create_payload_object_type.Only = codes "0x00000002"

pub create_payload_object_type_is_unit : (x : CreatePayloadObjectType) → IsUnit create_payload_object_type_variants (create_payload_object_type_number x)
unfolding number rule
create_payload_object_type_is_unit create_payload_object_type.Only = record { n = 0x00000002; numbered = refl; text = refl; units = λ k. record { no_rule = refl; named = refl } }

-- the numbers of `CreatedObjectType`
abbrev pub created_object_type_variants : Variants
created_object_type_variants =
    variant (codes "0x00000002") unit no_variants

-- the number of each
abbrev pub created_object_type_number : CreatedObjectType → List ℕ
created_object_type_number created_object_type.Only = codes "0x00000002"

pub created_object_type_is_unit : (x : CreatedObjectType) → IsUnit created_object_type_variants (created_object_type_number x)
unfolding number rule
created_object_type_is_unit created_object_type.Only = record { n = 0x00000002; numbered = refl; text = refl; units = λ k. record { no_rule = refl; named = refl } }

-- the numbers of `ResponseItemResultStatus`
abbrev pub response_item_result_status_variants : Variants
response_item_result_status_variants =
    variant (codes "0x00000000") unit no_variants

-- the number of each
abbrev pub response_item_result_status_number : ResponseItemResultStatus → List ℕ
response_item_result_status_number response_item_result_status.Only = codes "0x00000000"

pub response_item_result_status_is_unit : (x : ResponseItemResultStatus) → IsUnit response_item_result_status_variants (response_item_result_status_number x)
unfolding number rule
response_item_result_status_is_unit response_item_result_status.Only = record { n = 0x00000000; numbered = refl; text = refl; units = λ k. record { no_rule = refl; named = refl } }
