-- Values of messages that agree with a form as others.
use Rattle.std.specs.Prelude.{pos, false, List, ℕ, ℤ, All, FitsSigned, codes}
use Rattle.std.specs.Int.{w32}
use Rattle.kmip_ttlv_base.specs.Values.{Value, i32_value, text_value, none_value, some_value, seq_value, struct_value}
use Rattle.kmip_ttlv_base.specs.Values.{newtype_value, unit_variant_value, newtype_variant_value, no_values, value}
use Rattle.kmip_ttlv_base.specs.Forms.{Form, struct, option, seq, newtype, enum, int32, text, no_fields, field, no_variants}
use Rattle.kmip_ttlv_base.specs.Forms.{variant, unit, wrapped}
use Rattle.kmip_ttlv_parts.specs.MessageParts.{optional_sequence, sequence}
use Rattle.kmip_ttlv_parts.specs.Agreements.{MessageAgrees}

-- an attribute's value: by the name that was read before, the algorithm AES or a number
abbrev pub attribute_value_form : Form
attribute_value_form =
    enum (codes "value") (
    variant (codes "if 0x42000A==Cryptographic Algorithm") (wrapped (
    enum (codes "algorithm") (variant (codes "0x00000003") unit no_variants))) (
    variant (codes "if 0x42000A in [Cryptographic Length, Cryptographic Usage Mask]") (wrapped int32) no_variants))

-- a name and a value
abbrev pub attribute_form : Form
attribute_form =
    struct (codes "0x420008") (
    field (codes "0x42000A") text (
    field (codes "0x42000B") attribute_value_form no_fields)) false

-- one attribute or more
abbrev pub attributes_form : Form
attributes_form = struct (codes "0x420091") (field (codes "0x420008") (seq attribute_form) no_fields) false

-- an attribute as it is encoded: the tag of the value overrides the value's own
abbrev pub written_attribute : List ℕ → Value → Value
written_attribute name v =
    struct_value (codes "0x420008") (
    value (newtype_value (codes "Transparent:0x42000A") (text_value name)) (
    value (newtype_variant_value (codes "Override:0x42000B") (codes "Transparent") v) no_values))

-- and as it is decoded: the variant that its name chooses
abbrev pub read_attribute : List ℕ → List ℕ → Value → Value
read_attribute name rule v =
    struct_value (codes "0x420008") (
    value (text_value name) (
    value (newtype_variant_value (codes "value") rule v) no_values))

-- an algorithm and a length, in a newtype that is no wrapper
abbrev pub written_attributes : Value
written_attributes =
    newtype_value (codes "0x420091") (seq_value (
    value (written_attribute (codes "Cryptographic Algorithm") (
    unit_variant_value (codes "420028") (codes "0x00000003"))) (
    value (written_attribute (codes "Cryptographic Length") (i32_value (pos 128))) no_values)))

abbrev pub read_attributes : Value
read_attributes =
    struct_value (codes "0x420091") (value (seq_value (
    value (read_attribute (codes "Cryptographic Algorithm")
    (codes "if 0x42000A==Cryptographic Algorithm")
    (unit_variant_value (codes "algorithm") (codes "0x00000003"))) (
    value (read_attribute (codes "Cryptographic Length")
    (codes "if 0x42000A in [Cryptographic Length, Cryptographic Usage Mask]")
    (i32_value (pos 128))) no_values))) no_values)

-- attributes, each decoded by its own name
abbrev pub AttributesAgree : Type 0
AttributesAgree = MessageAgrees attributes_form written_attributes read_attributes

-- an option that is left out, and one that is there, before an integer
abbrev pub two_options : Form
two_options =
    struct (codes "0xAAAAAA") (
    field (codes "0xBBBBBB") (option int32) (
    field (codes "0xBBBBBC") (option int32) (
    field (codes "0xCCCCCC") int32 no_fields))) false

-- what a 3 and a 5 are encoded as, after an option that is left out: an empty sequence
abbrev pub written_options : Value
written_options =
    struct_value (codes "0xAAAAAA") (
    value (seq_value no_values) (
    value (newtype_value (codes "Transparent:0xBBBBBC") (i32_value (pos 3))) (
    value (newtype_value (codes "Transparent:0xCCCCCC") (i32_value (pos 5))) no_values)))

-- what they are decoded as
abbrev pub read_options : Value
read_options =
    struct_value (codes "0xAAAAAA") (
    value none_value (
    value (some_value (i32_value (pos 3))) (
    value (i32_value (pos 5)) no_values)))

-- options, one of them left out
abbrev pub OptionsAgree : Type 0
OptionsAgree = MessageAgrees two_options written_options read_options

-- an integer under this tag
abbrev pub number_under : List ℕ → ℤ → Value
number_under name z = newtype_value name (i32_value z)

-- two sequences of integers that may be empty
abbrev pub two_sequences : Form
two_sequences =
    struct (codes "0xAAAAAA") (
    field (codes "0xBBBBBB") (option (seq (newtype (codes "Transparent:0xBBBBBB") int32))) (
    field (codes "0xBBBBBC") (option (seq (newtype (codes "Transparent:0xBBBBBC") int32))) no_fields)) false

-- what two lists are encoded as: of an empty one no item
abbrev pub written_sequences : List ℤ → List ℤ → Value
written_sequences xs ys =
    struct_value (codes "0xAAAAAA") (
    value (sequence (number_under (codes "Transparent:0xBBBBBB")) xs) (
    value (sequence (number_under (codes "Transparent:0xBBBBBC")) ys) no_values))

-- what they are decoded as
abbrev pub read_sequences : List ℤ → List ℤ → Value
read_sequences xs ys =
    struct_value (codes "0xAAAAAA") (
    value (optional_sequence (number_under (codes "Transparent:0xBBBBBB")) xs) (
    value (optional_sequence (number_under (codes "Transparent:0xBBBBBC")) ys) no_values))

-- two lists of any length, also none
abbrev pub SequencesAgree : Type 0
SequencesAgree =
    (xs ys : List ℤ) → All (FitsSigned w32) xs → All (FitsSigned w32) ys
    → MessageAgrees two_sequences (written_sequences xs ys) (read_sequences xs ys)
