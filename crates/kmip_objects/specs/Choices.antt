-- Written by codegen from types.table: change that, and run codegen/codegen.
-- Which rules choose what, and what is there of what may be.
use Rattle.std.proofs.Common.{refl, true}
use Rattle.std.specs.Prelude.{codes, ℕ, ◌≡◌}
use Rattle.std.specs.Str.{chars, trim_end, trim_start}
use lib.Utf8.{encode}
use Rattle.kmip_ttlv_kinds.specs.Choices.{ChoiceOf, Held, Meaning, TypedCase, as_item, choice_by_type, typed_case}
use Rattle.kmip_ttlv_parts.proofs.Equal.{apart, in_variant}
use Rattle.kmip_ttlv_parts.proofs.ChoiceTexts.{is_there}
use Rattle.kmip_ttlv_parts.specs.Forms.{Variants, enum, no_variants, variant, wrapped}
use Rattle.kmip_ttlv_parts.specs.Names.{number, tag_of}
use Rattle.kmip_ttlv_parts.specs.Rules.{at_least, equal, in_brackets, member, rule, sides}
use Rattle.std.proofs.Common.{Bool as Boole}
use Rattle.kmip_ttlv_parts.specs.declared.types.TtlvType.{TtlvType}
use Rattle.kmip_ttlv_parts.specs.declared.types.TtlvType.TheVariants as types
use Rattle.std.proofs.Common.{String, Vec}
use Rattle.kmip_objects.specs.declared.key.KeyMaterial.{KeyMaterial}
use Rattle.kmip_objects.specs.declared.key.KeyMaterial.TheVariants as key_material
use Rattle.kmip_objects.specs.declared.key.KeyValue.{KeyValue}
use Rattle.kmip_objects.specs.declared.key.KeyValue.TheVariants as key_value
use Rattle.kmip_ttlv_parts.specs.declared.kept.Kept.{Kept}
use Rattle.kmip_objects.specs.declared.key.PlainKeyValue.{PlainKeyValue}

-- the type of the item of a `KeyMaterial`
abbrev pub key_material_typ : {A : Type 0} → KeyMaterial A → TtlvType
key_material_typ (key_material.Bytes x) = types.ByteString
key_material_typ (key_material.Structure x) = types.Structure

-- what each thing means that a `KeyMaterial` may hold
pub record KeyMaterialCases (A : Type 0) : Type 1 where
  pub bytes : Vec ℕ A → Meaning
  pub structure : Kept A → Meaning

-- what it means
unfoldable pub key_material_by : {A : Type 0} → KeyMaterialCases A → KeyMaterial A → Meaning
key_material_by f (key_material.Bytes x) = f.bytes x
key_material_by f (key_material.Structure x) = f.structure x

-- what a `KeyMaterial` may hold
pub record KeyMaterialItems (A : Type 0) (eq : KeyMaterial A → KeyMaterial A → Boole) : Type 1 where
  pub bytes : Held 0x420043 types.ByteString key_material.Bytes eq
  pub structure : Held 0x420043 types.Structure key_material.Structure eq

-- its variants, by their rules
abbrev pub key_material_variants : {A : Type 0} {eq : KeyMaterial A → KeyMaterial A → Boole} → KeyMaterialItems A eq → Variants
key_material_variants i =
    variant (codes "if type==ByteString") (wrapped i.bytes.form) (
    variant (codes "if type==Structure") (wrapped i.structure.form) no_variants)

abbrev pub key_material_cases : {A : Type 0} {eq : KeyMaterial A → KeyMaterial A → Boole} → KeyMaterialItems A eq → KeyMaterialCases A
key_material_cases i = record {
  bytes = as_item (codes "material") (codes "if type==ByteString") i.bytes;
  structure = as_item (codes "material") (codes "if type==Structure") i.structure;
}

pub key_material_case : {A : Type 0} {eq : KeyMaterial A → KeyMaterial A → Boole} (i : KeyMaterialItems A eq) (x : KeyMaterial A)
    → TypedCase 0x420043 (key_material_typ x) (enum (codes "material") (key_material_variants i)) (key_material_by (key_material_cases i) x)
unfolding tag_of number rule sides equal at_least member in_brackets trim_end chars trim_start encode key_material_by
key_material_case i (key_material.Bytes x) = typed_case i.bytes x (is_there _ 0 refl) (λ k. refl)
key_material_case i (key_material.Structure x) = typed_case i.structure x (is_there _ 1 refl) (λ k. refl)

pub key_material_same : {A : Type 0} {eq : KeyMaterial A → KeyMaterial A → Boole} (i : KeyMaterialItems A eq) (x y : KeyMaterial A)
    → (key_material_by (key_material_cases i) x).value ≡ (key_material_by (key_material_cases i) y).value
    → eq x y ≡ true
unfolding key_material_by
key_material_same i (key_material.Bytes x) (key_material.Bytes y) e = i.bytes.same x y (i.bytes.rules.same x y (in_variant e))
key_material_same i (key_material.Structure x) (key_material.Structure y) e = i.structure.same x y (i.structure.rules.same x y (in_variant e))
key_material_same i x y e = absurd (apart e refl)

-- the choice
abbrev pub key_material_choice : {A : Type 0} (eq : KeyMaterial A → KeyMaterial A → Boole) → KeyMaterialItems A eq → ChoiceOf (KeyMaterial A)
key_material_choice eq i = choice_by_type {typ = key_material_typ} {m = key_material_by (key_material_cases i)} 0x420043 (key_material_case i) eq (key_material_same i)

-- the type of the item of a `KeyValue`
abbrev pub key_value_typ : {A : Type 0} → KeyValue A → TtlvType
key_value_typ (key_value.Plain x) = types.Structure
key_value_typ (key_value.Wrapped x) = types.ByteString

-- what each thing means that a `KeyValue` may hold
pub record KeyValueCases (A : Type 0) : Type 1 where
  pub plain : PlainKeyValue A → Meaning
  pub wrapped : Vec ℕ A → Meaning

-- what it means
unfoldable pub key_value_by : {A : Type 0} → KeyValueCases A → KeyValue A → Meaning
key_value_by f (key_value.Plain x) = f.plain x
key_value_by f (key_value.Wrapped x) = f.wrapped x

-- what a `KeyValue` may hold
pub record KeyValueItems (A : Type 0) (eq : KeyValue A → KeyValue A → Boole) : Type 1 where
  pub plain : Held 0x420045 types.Structure key_value.Plain eq
  pub wrapped : Held 0x420045 types.ByteString key_value.Wrapped eq

-- its variants, by their rules
abbrev pub key_value_variants : {A : Type 0} {eq : KeyValue A → KeyValue A → Boole} → KeyValueItems A eq → Variants
key_value_variants i =
    variant (codes "if type==Structure") (wrapped i.plain.form) (
    variant (codes "if type==ByteString") (wrapped i.wrapped.form) no_variants)

abbrev pub key_value_cases : {A : Type 0} {eq : KeyValue A → KeyValue A → Boole} → KeyValueItems A eq → KeyValueCases A
key_value_cases i = record {
  plain = as_item (codes "value") (codes "if type==Structure") i.plain;
  wrapped = as_item (codes "value") (codes "if type==ByteString") i.wrapped;
}

pub key_value_case : {A : Type 0} {eq : KeyValue A → KeyValue A → Boole} (i : KeyValueItems A eq) (x : KeyValue A)
    → TypedCase 0x420045 (key_value_typ x) (enum (codes "value") (key_value_variants i)) (key_value_by (key_value_cases i) x)
unfolding tag_of number rule sides equal at_least member in_brackets trim_end chars trim_start encode key_value_by
key_value_case i (key_value.Plain x) = typed_case i.plain x (is_there _ 0 refl) (λ k. refl)
key_value_case i (key_value.Wrapped x) = typed_case i.wrapped x (is_there _ 1 refl) (λ k. refl)

pub key_value_same : {A : Type 0} {eq : KeyValue A → KeyValue A → Boole} (i : KeyValueItems A eq) (x y : KeyValue A)
    → (key_value_by (key_value_cases i) x).value ≡ (key_value_by (key_value_cases i) y).value
    → eq x y ≡ true
unfolding key_value_by
key_value_same i (key_value.Plain x) (key_value.Plain y) e = i.plain.same x y (i.plain.rules.same x y (in_variant e))
key_value_same i (key_value.Wrapped x) (key_value.Wrapped y) e = i.wrapped.same x y (i.wrapped.rules.same x y (in_variant e))
key_value_same i x y e = absurd (apart e refl)

-- the choice
abbrev pub key_value_choice : {A : Type 0} (eq : KeyValue A → KeyValue A → Boole) → KeyValueItems A eq → ChoiceOf (KeyValue A)
key_value_choice eq i = choice_by_type {typ = key_value_typ} {m = key_value_by (key_value_cases i)} 0x420045 (key_value_case i) eq (key_value_same i)
