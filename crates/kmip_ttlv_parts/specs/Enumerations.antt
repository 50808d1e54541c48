-- Enumerations of any number: the value of one, which are sound, and that a sound one comes back as itself.
use Rattle.std.specs.Prelude.{ℕ, ◌<◌, ◌^◌, ◌%◌, List, [], ◌∷◌, ◌++◌}
use Rattle.kmip_ttlv_types.specs.declared.typ.TtlvType.TheVariants as types
use Rattle.kmip_ttlv_base.specs.{Forms.any_number, Values.Value, Values.u32_value}
use Rattle.kmip_ttlv_reader.specs.{Spots.wrapped_leaf, TagValues.TagValue}
use Rattle.kmip_ttlv_parts.specs.{Agreements.Agrees, Agreements.none_pending, Returns.text_of_number}
use Rattle.kmip_ttlv_parts.specs.MessageParts.{tagged}
use Rattle.kmip_ttlv_parts.specs.declared.enumeration.Enumeration.{Enumeration}

-- the value of an Enumeration: its number, under the tag of its type
abbrev pub enumeration_value : {tag : ℕ} → Enumeration tag → Value
enumeration_value {tag} x = tagged tag (u32_value x.number)

-- its number is one of four bytes
abbrev pub IsEnumeration : {tag : ℕ} → Enumeration tag → Type 0
IsEnumeration x = x.number < 2 ^ 32

-- a sound one agrees with its form as itself, under its tag, of which the last three bytes count; its number is kept
abbrev pub EnumerationsAgree : ℕ → Type 0
EnumerationsAgree tag =
    (x : Enumeration tag) (k : List TagValue)
    → IsEnumeration x
    → Agrees (wrapped_leaf tag any_number) k none_pending (enumeration_value x)
    record { tag = tag % 2 ^ 24; typ = types.Enumeration } (enumeration_value x)
    (k ++ record { tag = tag % 2 ^ 24; text = text_of_number x.number } ∷ [])
