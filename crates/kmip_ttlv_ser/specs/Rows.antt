-- Values whose bytes, or whose first errors, are computed here by the definitions themselves.
use Rattle.std.specs.Prelude.{◌≡◌, ℕ, pos, negsuc, true, false, List, [], ◌∷◌, Some, None, codes}
use Rattle.kmip_ttlv_types.specs.Trees.{bytes_all}
use Rattle.kmip_ttlv_base.specs.Errors.{Kind, mismatch, invalid_tag, invalid_variant, unsupported_rust_type}
use Rattle.kmip_ttlv_base.specs.Values.{Value, i32_value, u64_value, date_time_value, big_integer_value, interval_value}
use Rattle.kmip_ttlv_base.specs.Values.{none_value as none, seq_value, struct_value, newtype_value, unit_variant_value}
use Rattle.kmip_ttlv_base.specs.Values.{newtype_variant_value, Values, no_values, value}
use Rattle.kmip_ttlv_ser.specs.declared.pending.PendingTag.TheVariants.{Nothing}
use Rattle.kmip_ttlv_ser.specs.WrittenItems.{◌>>=◌, items}
use Rattle.kmip_ttlv_ser.specs.Faults.{fault, no_tag, tag_unused}
use Rattle.kmip_ttlv_ser.specs.EncodeResults.{origin}

-- the value's items have these bytes
abbrev pub HasBytes : Value → List ℕ → Type 0
HasBytes v bytes = (items v Nothing >>= λ ts. Some (bytes_all ts)) ≡ Some bytes

-- the value has no items: its first error and that one's offset
abbrev pub FailsBy : Value → Kind → ℕ → Type 0
FailsBy v kind offset =
    (items v Nothing ≡ None) × (fault v Nothing origin ≡ record { kind = kind; offset = offset })

-- the number 3, of 32 bits
abbrev pub three : Value
three = i32_value (pos 3)

-- two unit variants
abbrev pub two_modes : Values
two_modes =
    value (unit_variant_value (codes "420028") (codes "0x1"))
    (value (unit_variant_value (codes "420028") (codes "0x2")) no_values)

-- the rest of the name is the tag of the number
abbrev pub a_transparent_newtype : Type 0
a_transparent_newtype =
    HasBytes (newtype_value (codes "Transparent:0xAABBCC") three)
    (0xAA ∷ 0xBB ∷ 0xCC ∷ 2 ∷ 0 ∷ 0 ∷ 0 ∷ 4 ∷ 0 ∷ 0 ∷ 0 ∷ 3 ∷ 0 ∷ 0 ∷ 0 ∷ 0 ∷ [])

-- the overriding tag replaces the unit variant's
abbrev pub an_overriding_wrapper : Type 0
an_overriding_wrapper =
    HasBytes (newtype_variant_value (codes "Override:0x42000B") (codes "Transparent")
    (unit_variant_value (codes "420028") (codes "0x00000003")))
    (0x42 ∷ 0 ∷ 0x0B ∷ 5 ∷ 0 ∷ 0 ∷ 0 ∷ 4 ∷ 0 ∷ 0 ∷ 0 ∷ 3 ∷ 0 ∷ 0 ∷ 0 ∷ 0 ∷ [])

-- only the first element has the overriding tag
abbrev pub an_overriding_wrapper_over_two : Type 0
an_overriding_wrapper_over_two =
    HasBytes (newtype_variant_value (codes "Override:0x42000B") (codes "Transparent") (seq_value two_modes))
    (0x42 ∷ 0 ∷ 0x0B ∷ 5 ∷ 0 ∷ 0 ∷ 0 ∷ 4 ∷ 0 ∷ 0 ∷ 0 ∷ 1 ∷ 0 ∷ 0 ∷ 0 ∷ 0
    ∷ 0x42 ∷ 0 ∷ 0x28 ∷ 5 ∷ 0 ∷ 0 ∷ 0 ∷ 4 ∷ 0 ∷ 0 ∷ 0 ∷ 2 ∷ 0 ∷ 0 ∷ 0 ∷ 0 ∷ [])

-- the prefix is removed twice if the variant is a structure
abbrev pub a_doubled_prefix : Type 0
a_doubled_prefix =
    HasBytes (newtype_variant_value (codes "Override:Override:0xAABBCC") (codes "X")
    (newtype_value (codes "Transparent:0xBBBBBB") three))
    (0xAA ∷ 0xBB ∷ 0xCC ∷ 1 ∷ 0 ∷ 0 ∷ 0 ∷ 0x10
    ∷ 0xBB ∷ 0xBB ∷ 0xBB ∷ 2 ∷ 0 ∷ 0 ∷ 0 ∷ 4 ∷ 0 ∷ 0 ∷ 0 ∷ 3 ∷ 0 ∷ 0 ∷ 0 ∷ 0 ∷ [])

-- it is a Date-Time
abbrev pub an_unsigned_number_of_64_bits : Type 0
an_unsigned_number_of_64_bits =
    HasBytes (newtype_value (codes "Transparent:0xAABBCC") (u64_value 9223372036854775808))
    (0xAA ∷ 0xBB ∷ 0xCC ∷ 9 ∷ 0 ∷ 0 ∷ 0 ∷ 8 ∷ 0x80 ∷ 0 ∷ 0 ∷ 0 ∷ 0 ∷ 0 ∷ 0 ∷ 0 ∷ [])

-- the date 2009-11-12T10:47:30Z, which has the code 09
abbrev pub a_date_time : Type 0
a_date_time =
    HasBytes (newtype_value (codes "Transparent:0x420092") (date_time_value (pos 0x4AFBE7C2)))
    (0x42 ∷ 0 ∷ 0x92 ∷ 9 ∷ 0 ∷ 0 ∷ 0 ∷ 8 ∷ 0 ∷ 0 ∷ 0 ∷ 0 ∷ 0x4A ∷ 0xFB ∷ 0xE7 ∷ 0xC2 ∷ [])

-- the second before 1970, in two's complement
abbrev pub a_date_time_before_1970 : Type 0
a_date_time_before_1970 =
    HasBytes (newtype_value (codes "Transparent:0x420092") (date_time_value (negsuc 0)))
    (0x42 ∷ 0 ∷ 0x92 ∷ 9 ∷ 0 ∷ 0 ∷ 0 ∷ 8 ∷ 0xFF ∷ 0xFF ∷ 0xFF ∷ 0xFF ∷ 0xFF ∷ 0xFF ∷ 0xFF ∷ 0xFF ∷ [])

-- its sign is extended to eight bytes
abbrev pub a_negative_big_integer : Type 0
a_negative_big_integer =
    HasBytes (newtype_value (codes "Transparent:0x420020") (big_integer_value (0x80 ∷ [])))
    (0x42 ∷ 0 ∷ 0x20 ∷ 4 ∷ 0 ∷ 0 ∷ 0 ∷ 8 ∷ 0xFF ∷ 0xFF ∷ 0xFF ∷ 0xFF ∷ 0xFF ∷ 0xFF ∷ 0xFF ∷ 0x80 ∷ [])

-- it has the code 0A
abbrev pub an_interval : Type 0
an_interval =
    HasBytes (newtype_value (codes "Transparent:0x420020") (interval_value 5))
    (0x42 ∷ 0 ∷ 0x20 ∷ 0x0A ∷ 0 ∷ 0 ∷ 0 ∷ 4 ∷ 0 ∷ 0 ∷ 0 ∷ 5 ∷ 0 ∷ 0 ∷ 0 ∷ 0 ∷ [])

-- a header alone
abbrev pub an_empty_structure : Type 0
an_empty_structure = HasBytes (struct_value (codes "0x123456") no_values) (0x12 ∷ 0x34 ∷ 0x56 ∷ 1 ∷ 0 ∷ 0 ∷ 0 ∷ 0 ∷ [])

-- no items, and no bytes
abbrev pub an_empty_sequence : Type 0
an_empty_sequence = HasBytes (seq_value no_values) []

-- a field without a tag is an error after the header of its structure
abbrev pub a_bare_field : Type 0
a_bare_field = FailsBy (struct_value (codes "0xAABBCC") (value three no_values)) (no_tag true) 8

-- a value without a tag is an error at once
abbrev pub a_bare_value : Type 0
a_bare_value = FailsBy three (no_tag false) 0

-- a tag that no item takes is an error after it
abbrev pub a_wrapper_over_nothing : Type 0
a_wrapper_over_nothing = FailsBy (newtype_value (codes "Transparent:0xAABBCC") (seq_value no_values)) tag_unused 3

-- the name of a unit variant that is no number is an error after the tag
abbrev pub a_variant_that_is_no_number : Type 0
a_variant_that_is_no_number =
    FailsBy (unit_variant_value (codes "0x42005C") (codes "Create")) (mismatch (invalid_variant (codes "Create")))
    3

-- the outer tag finds no item, because the inner wrapper takes a tag of its own
abbrev pub a_wrapper_in_a_wrapper : Type 0
a_wrapper_in_a_wrapper =
    FailsBy (struct_value (codes "0xAAAAAA") (value (newtype_variant_value (codes "Override:0xBBBBBB")
    (codes "Transparent") three) (value (newtype_value (codes "Transparent:0xCCCCCC")
    (newtype_value (codes "Transparent:0xDDDDDD") (i32_value (pos 4)))) no_values))) tag_unused 27

-- the prefix is removed once if the variant is a wrapper
abbrev pub a_doubled_prefix_of_a_wrapper : Type 0
a_doubled_prefix_of_a_wrapper =
    FailsBy (newtype_variant_value (codes "Override:Override:0xAABBCC") (codes "Transparent") three)
    (mismatch (invalid_tag (codes "Override:0xAABBCC"))) 0

-- `None` has no item, and is an error after the tag
abbrev pub a_wrapper_over_none : Type 0
a_wrapper_over_none =
    FailsBy (newtype_value (codes "Transparent:0xAABBCC") none) (mismatch (unsupported_rust_type (codes "None")))
    3

-- the prefix is no part of a structure's tag
abbrev pub a_structure_named_transparent : Type 0
a_structure_named_transparent =
    FailsBy (struct_value (codes "Transparent:0xAABBCC") (value (i32_value (pos 1)) no_values))
    (mismatch (invalid_tag (codes "Transparent:0xAABBCC"))) 0
