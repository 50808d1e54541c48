-- Enumerations of any number: each agrees with its form as itself, and two that stand for the same are equal.
use Rattle.std.proofs.Common.{◌≡◌, ◌==◌, ℕ, true, refl}
use Rattle.kmip_ttlv_base.specs.Forms.{any_number}
use Rattle.kmip_ttlv_base.proofs.TagNames.{transparent_wrapper}
use Rattle.kmip_ttlv_reader.specs.Spots.{wrapped_leaf}
use Rattle.kmip_ttlv_parts.specs.declared.enumeration.Enumeration.{Enumeration}
use Rattle.kmip_ttlv_parts.specs.Agreements.{inner_agrees, leaf_agrees, newtype_agrees, newtype_wraps}
use Rattle.kmip_ttlv_parts.specs.Enumerations.{EnumerationsAgree, IsEnumeration, enumeration_value}
use Rattle.kmip_ttlv_parts.specs.Returns.{as_number}
use Rattle.kmip_ttlv_parts.proofs.{Equal.newtypes_equal, Equal.numbers_equal, TagNumbers.IsTag, TagNumbers.takes_number}
use Rattle.kmip_ttlv_parts.proofs.MessageParts.{PartAgrees, an_enumeration, leaf_part}

-- whatever the number of its tag is
pub enumerations_agree : (tag : ℕ) → EnumerationsAgree tag
enumerations_agree tag x k sound =
    newtype_agrees (inner_agrees (newtype_wraps (transparent_wrapper tag) (takes_number tag)) (leaf_agrees refl (as_number sound)))

-- as a part of a message
pub enumeration_agrees : {t : ℕ} → IsTag t → (x : Enumeration t) → IsEnumeration x
    → PartAgrees (wrapped_leaf t any_number) (enumeration_value x) (an_enumeration t) (enumeration_value x)
enumeration_agrees {t} is x sound = leaf_part t is (as_number sound)

pub enumerations_equal : {t : ℕ} (x y : Enumeration t) → enumeration_value x ≡ enumeration_value y → (x.number == y.number) ≡ true
enumerations_equal x y e = newtypes_equal (numbers_equal x.number y.number) e
