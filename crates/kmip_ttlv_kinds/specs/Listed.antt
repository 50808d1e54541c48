-- What a type whose values are listed numbers of an Enumeration has to say of itself, and that each of them comes back.
use Rattle.std.proofs.Common.{◌≡◌, ℕ, List, Bool as Boole, true, refl, Some}
use Rattle.kmip_ttlv_types.specs.Digits.{tag_text}
use Rattle.kmip_ttlv_types.specs.declared.typ.TtlvType.TheVariants as types
use Rattle.kmip_ttlv_base.specs.{Forms.Variants, Forms.enum, Values.Value, Values.unit_variant_value}
use Rattle.kmip_ttlv_parts.proofs.{Equal.in_unit, MessageParts.IsUnit, MessageParts.enumeration_part, MessageRules.enumeration_stored, TagNumbers.takes_tag}
use Rattle.kmip_ttlv_kinds.specs.Parts.{ItemRules}

-- of a type whose values are these variants of the Enumeration of a tag: the number of each value as a text, and that values of one number
-- are equal
pub record ListedRules (H : Type 0) (variants : Variants) : Type 1 where
  pub number : H → List ℕ
  pub units : (x : H) → IsUnit variants (number x)
  pub eq : H → H → Boole
  pub same : (x y : H) → number x ≡ number y → eq x y ≡ true

-- the value that one is written and read as
abbrev pub listed_value : {H : Type 0} {variants : Variants} → ℕ → ListedRules H variants → H → Value
listed_value n r x = unit_variant_value (tag_text n) (r.number x)

-- such an Enumeration under its tag
abbrev pub listed_item : {H : Type 0} {variants : Variants} (n : ℕ) (r : ListedRules H variants) → ItemRules H (enum (tag_text n) variants) (listed_value n r)
listed_item n r = record {
  number = n;
  typ = types.Enumeration;
  written = listed_value n r;
  IsSound = λ x. Unit {0};
  eq = r.eq;
  single = λ x. refl;
  agrees = λ is x sound. enumeration_part (takes_tag n is) (r.units x);
  says = Some r.number;
  keeps = λ is x sound. enumeration_stored (takes_tag n is) (r.units x);
  same = λ x y e. r.same x y (in_unit e);
}
