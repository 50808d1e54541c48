-- What a type of Rust has to say of itself to be a leaf: what is written of it, and that this comes back.
use Rattle.std.proofs.Common.{◌≡◌, ◌==◌, ℕ, List, Bool as Boole, false, true, refl, subst, Option, Some}
use Rattle.std.specs.Prelude.{IfSome}
use Rattle.kmip_ttlv_types.specs.declared.typ.TtlvType.{TtlvType}
use Rattle.kmip_ttlv_types.specs.declared.typ.TtlvType.TheVariants as types
use Rattle.kmip_ttlv_base.specs.{Forms.any_number, Tags.wrapper_name, Values.Value, Values.newtype_value, Values.u32_value}
use Rattle.kmip_ttlv_reader.specs.{declared.leaf.Leaf.Leaf, LeafForms.form_of_leaf, Spots.wrapped_leaf}
use Rattle.kmip_ttlv_parts.specs.{Agreements.is_run, Agreements.leaf_type, MessageParts.tagged, Returns.ComesBack, Returns.as_number, Returns.text_of_number}
use Rattle.kmip_ttlv_parts.specs.{Enumerations.enumeration_value, Enumerations.IsEnumeration, declared.enumeration.Enumeration.Enumeration}
use Rattle.kmip_ttlv_parts.proofs.{Enumerations.enumeration_agrees, Enumerations.enumerations_equal, Equal.newtypes_equal, Equal.numbers_equal, MessageParts.PartAgrees, MessageParts.leaf_part}
use Rattle.kmip_ttlv_parts.proofs.{MessageRules.PartKeeps, MessageRules.number_stored, TagNumbers.IsTag}
use Rattle.kmip_ttlv_kinds.specs.Parts.{ItemRules}

-- of a type whose values are read as these leaves: what is written of one, of which type; and that of a sound one it comes back
pub record LeafRules (H : Type 0) (shape : Leaf) (as_value : H → Value) : Type 1 where
  pub typ : TtlvType
  pub written : H → Value
  pub IsSound : H → Type 0
  pub eq : H → H → Boole
  pub single : (x : H) → is_run (as_value x) ≡ false
  pub typed : (x : H) → leaf_type (written x) ≡ typ
  pub comes_back : (x : H) → IsSound x → ComesBack (form_of_leaf shape) (written x) (as_value x)
  pub says : Option (H → List ℕ)
  pub keeps : (n : ℕ) → IsTag n → IfSome says (λ text. (x : H) → IsSound x
      → PartKeeps (wrapped_leaf n (form_of_leaf shape)) (tagged n (written x)) record { tag = n; typ = typ } (tagged n (as_value x)) record
      { tag = n; text = text x })
  pub same : (x y : H) → as_value x ≡ as_value y → eq x y ≡ true

pub leaf_agrees : {H : Type 0} {l : Leaf} {g : H → Value} (n : ℕ) (r : LeafRules H l g) → IsTag n → (x : H) → r.IsSound x
    → PartAgrees (wrapped_leaf n (form_of_leaf l)) (tagged n (r.written x)) record { tag = n; typ = r.typ } (tagged n (g x))
leaf_agrees {l = l} {g = g} n r is x sound =
    subst (λ t. PartAgrees (wrapped_leaf n (form_of_leaf l)) (tagged n (r.written x)) record { tag = n; typ = t } (tagged n (g x))) (r.typed x)
    (leaf_part n is (r.comes_back x sound))

-- such a leaf under a tag
abbrev pub leaf_item : {H : Type 0} {l : Leaf} {g : H → Value} (n : ℕ) → LeafRules H l g
    → ItemRules H (wrapped_leaf n (form_of_leaf l)) (λ x. newtype_value (wrapper_name n) (g x))
leaf_item n r = record {
  number = n;
  typ = r.typ;
  written = λ x. tagged n (r.written x);
  IsSound = r.IsSound;
  eq = r.eq;
  single = r.single;
  agrees = leaf_agrees n r;
  says = r.says;
  keeps = r.keeps n;
  same = λ x y e. newtypes_equal (r.same x y) e;
}

-- an Enumeration of any number, under its tag
abbrev pub enumeration_item : (n : ℕ) → ItemRules (Enumeration n) (wrapped_leaf n any_number) enumeration_value
enumeration_item n = record {
  number = n;
  typ = types.Enumeration;
  written = enumeration_value;
  IsSound = IsEnumeration;
  eq = λ x y. x.number == y.number;
  single = λ x. refl;
  agrees = enumeration_agrees;
  says = Some (λ x. text_of_number x.number);
  keeps = λ is x sound. number_stored n is sound;
  same = enumerations_equal;
}

-- the same under another tag
abbrev pub enumeration_under : (n : ℕ) {tag : ℕ} → ItemRules (Enumeration tag) (wrapped_leaf n any_number) (λ x. tagged n (u32_value x.number))
enumeration_under n = record {
  number = n;
  typ = types.Enumeration;
  written = λ x. tagged n (u32_value x.number);
  IsSound = IsEnumeration;
  eq = λ x y. x.number == y.number;
  single = λ x. refl;
  agrees = λ is x sound. leaf_part n is (as_number sound);
  says = Some (λ x. text_of_number x.number);
  keeps = λ is x sound. number_stored n is sound;
  same = λ x y e. newtypes_equal (numbers_equal x.number y.number) e;
}
