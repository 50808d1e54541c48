-- Written by codegen from types.table: change that, and run codegen/codegen.
-- The numbers of Enumerations of listed numbers, and of constants.
use Rattle.std.specs.Prelude.{List, Some, codes, refl, ℕ, [], ◌∷◌, ◌≡◌}
use Rattle.kmip_ttlv_parts.specs.Forms.{Variants, no_variants, unit, variant}
use Rattle.kmip_ttlv_parts.specs.Names.{number}
use Rattle.kmip_ttlv_parts.specs.Rules.{rule}
use Rattle.kmip_ttlv_parts.proofs.MessageParts.{IsUnit}
use Rattle.kmip_ttlv_parts.proofs.Equal.{found_same, row_of}
use Rattle.reading_vectors.specs.declared.selves.Order.{Order}
use Rattle.reading_vectors.specs.declared.selves.Order.TheVariants as order

-- the numbers of `Order`
abbrev pub order_variants : Variants
order_variants =
    variant (codes "0x00000001") unit (
    variant (codes "0x00000007") unit no_variants)

-- the number of each
abbrev pub order_number : Order → List ℕ
order_number order.One = codes "0x00000001"
order_number order.Seven = codes "0x00000007"

pub order_is_unit : (x : Order) → IsUnit order_variants (order_number x)
unfolding number rule
order_is_unit order.One = record { n = 0x00000001; numbered = refl; text = refl; units = λ k. record { no_rule = refl; named = refl } }
order_is_unit order.Seven = record { n = 0x00000007; numbered = refl; text = refl; units = λ k. record { no_rule = refl; named = refl } }

abbrev order_rows : List (List ℕ × Order)
order_rows =
    (codes "0x00000001", order.One) ∷
    (codes "0x00000007", order.Seven) ∷
    []

order_found : (x : Order) → row_of (order_number x) order_rows ≡ Some x
order_found order.One = refl
order_found order.Seven = refl

pub order_same : (x y : Order) → order_number x ≡ order_number y → x ≡ y
order_same x y e = found_same order_number order_rows order_found x y e
