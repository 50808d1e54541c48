-- Worked values agree with their forms, computed on the definitions.
use Rattle.std.proofs.Common.{ℤ, pos, None, refl, codes, List, [], ◌∷◌, FitsSigned, lit<}
use Rattle.std.specs.Int.{w32}
use Rattle.std.proofs.lemmas.List.Elements.{recursion_from_All}
use Rattle.std.specs.Str.{chars, is_utf8, trim_end, trim_start}
use lib.Utf8.{encode}
use Rattle.kmip_ttlv_types.specs.Names.{number, override_name, tag_of, transparent_name}
use Rattle.kmip_ttlv_ser.specs.WrittenItems.{pending_after, is_wrapper, take_tag}
use Rattle.kmip_ttlv_reader.specs.Rules.{at_least, equal, in_brackets, member, rule, sides}
use Rattle.kmip_ttlv_types.specs.declared.typ.TtlvType.TheVariants.{Integer}
use Rattle.kmip_ttlv_base.specs.Forms.{int32, newtype}
use Rattle.kmip_ttlv_base.specs.Values.{Value, i32_value, unit_variant_value}
use Rattle.kmip_ttlv_parts.specs.Agreements.{Head, absent_agrees, field_agrees, first_variant, inner_agrees, later_variant, leaf_agrees, newtype_wraps}
use Rattle.kmip_ttlv_parts.specs.Agreements.{no_field_agrees, nothing_agrees, option_agrees, struct_agrees, struct_encodes, unit_is_numbered, variant_wraps}
use Rattle.kmip_ttlv_parts.proofs.MessageParts.{PartAgrees, a_structure, each_agrees, first_of, last_then, message, named_any, named_leaf}
use Rattle.kmip_ttlv_parts.proofs.MessageParts.{named_structure, neither_named, newtype_structure, nothing_left, sequence_part, unwrapped_leaf, unwrapped_unit}
use Rattle.kmip_ttlv_parts.proofs.MessageRules.{chosen_after, named_choice, named_stored, wrapped_text_stored}
use Rattle.kmip_ttlv_parts.specs.Returns.{as_int32}
use Rattle.kmip_ttlv_parts.specs.WorkedAgreements.{AttributesAgree, OptionsAgree, SequencesAgree, attribute_form, number_under, written_attribute}
use Rattle.kmip_ttlv_parts.specs.WorkedAgreements.{read_attribute}

pub options_agree : OptionsAgree
unfolding take_tag tag_of number transparent_name
options_agree =
    let first = inner_agrees (newtype_wraps refl refl) (leaf_agrees refl (as_int32 record { sfits = lit< tt })) in
    let second = inner_agrees (newtype_wraps refl refl) (leaf_agrees refl (as_int32 record { sfits = lit< tt })) in (
      _,
      _,
      struct_agrees refl (struct_encodes refl) (nothing_agrees (absent_agrees refl
          (field_agrees refl refl (option_agrees first)
          (field_agrees refl refl second no_field_agrees)))),
    )

-- an attribute whose name chooses an algorithm
algorithm_agrees : PartAgrees attribute_form (written_attribute (codes "Cryptographic Algorithm") (unit_variant_value (codes "420028") (codes "0x00000003")))
    (a_structure 0x420008) (read_attribute (codes "Cryptographic Algorithm") (codes "if 0x42000A==Cryptographic Algorithm")
    (unit_variant_value (codes "algorithm") (codes "0x00000003")))
unfolding take_tag tag_of number transparent_name override_name pending_after is_wrapper rule sides equal at_least member in_brackets trim_end chars
    trim_start encode is_utf8
algorithm_agrees = named_structure refl refl (
    named_stored refl refl (wrapped_text_stored (newtype_wraps refl refl) refl refl) (
    named_choice {tag = 0x42000A} refl refl refl (chosen_after first_variant (λ k found. rw found refl) (
    unwrapped_unit (variant_wraps refl refl) (unit_is_numbered refl refl) refl (λ k. record { no_rule = refl; named = refl }))) nothing_left))

-- one whose name chooses a number
length_agrees : PartAgrees attribute_form (written_attribute (codes "Cryptographic Length") (i32_value (pos 128))) (a_structure 0x420008)
    (read_attribute (codes "Cryptographic Length") (codes "if 0x42000A in [Cryptographic Length, Cryptographic Usage Mask]") (i32_value (pos 128)))
unfolding take_tag tag_of number transparent_name override_name pending_after is_wrapper rule sides equal at_least member in_brackets trim_end chars
    trim_start encode is_utf8
length_agrees = named_structure refl refl (
    named_stored refl refl (wrapped_text_stored (newtype_wraps refl refl) refl refl) (
    named_choice {tag = 0x42000A} refl refl refl (chosen_after (later_variant first_variant) (λ k found. rw found refl) (
    unwrapped_leaf (variant_wraps refl refl) refl (as_int32 record { sfits = lit< tt }))) nothing_left))

-- both, each as it is encoded and as it is decoded
both : List (Value × Value)
both = (
  written_attribute (codes "Cryptographic Algorithm") (unit_variant_value (codes "420028") (codes "0x00000003")),
  read_attribute (codes "Cryptographic Algorithm") (codes "if 0x42000A==Cryptographic Algorithm") (unit_variant_value (codes "algorithm") (codes "0x00000003")),
) ∷ (
  written_attribute (codes "Cryptographic Length") (i32_value (pos 128)),
  read_attribute (codes "Cryptographic Length") (codes "if 0x42000A in [Cryptographic Length, Cryptographic Usage Mask]") (i32_value (pos 128)),
)
    ∷ []

pub attributes_agree : AttributesAgree
unfolding take_tag tag_of number transparent_name both
attributes_agree = message (newtype_structure refl refl refl (last_then refl (
    sequence_part (λ p. p.0) (λ p. p.1) both (lit< tt) (algorithm_agrees, refl, (length_agrees, refl, tt)))))

-- an integer under its tag
number_agrees : (z : ℤ) → FitsSigned w32 z → PartAgrees (newtype (codes "Transparent:0xBBBBBB") int32) (number_under (codes "Transparent:0xBBBBBB") z) record
    { tag = 0xBBBBBB; typ = Integer } (number_under (codes "Transparent:0xBBBBBB") z)
unfolding take_tag tag_of number transparent_name
number_agrees z fits = named_leaf refl refl (as_int32 fits)

next_agrees : (z : ℤ) → FitsSigned w32 z → PartAgrees (newtype (codes "Transparent:0xBBBBBC") int32) (number_under (codes "Transparent:0xBBBBBC") z) record
    { tag = 0xBBBBBC; typ = Integer } (number_under (codes "Transparent:0xBBBBBC") z)
unfolding take_tag tag_of number transparent_name
next_agrees z fits = named_leaf refl refl (as_int32 fits)

pub sequences_agree : SequencesAgree
unfolding take_tag tag_of number
sequences_agree xs ys fit next_fit =
    let first = number_under (codes "Transparent:0xBBBBBB") in
    let second = number_under (codes "Transparent:0xBBBBBC") in
    let head : Head = record { tag = 0xBBBBBC; typ = Integer } in
    message (named_structure refl refl (
    named_any first first record { tag = 0xBBBBBB; typ = Integer } xs refl (neither_named (codes "0xBBBBBB") (first_of ys) head None refl refl)
    (each_agrees number_agrees (λ z. refl) xs (recursion_from_All (FitsSigned w32) xs fit)) (
    named_any second second head ys refl refl
    (each_agrees next_agrees (λ z. refl) ys (recursion_from_All (FitsSigned w32) ys next_fit)) nothing_left)))
