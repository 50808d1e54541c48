-- Written by codegen from types.table: change that, and run codegen/codegen.
-- Which rules choose what, and what is there of what may be.
use Rattle.std.proofs.Common.{refl, true}
use Rattle.std.specs.Prelude.{List, codes, ℕ, ◌≡◌, [], ◌∷◌}
use Rattle.std.specs.Str.{chars, trim_end, trim_start}
use lib.Utf8.{encode}
use Rattle.kmip_ttlv_kinds.specs.Choices.{Case, ChoiceOf, Held, Meaning, TypedCase, as_item, case_of, choice_by, choice_by_type, typed_case}
use Rattle.kmip_ttlv_parts.proofs.Equal.{apart, in_variant}
use Rattle.kmip_ttlv_parts.proofs.ChoiceTexts.{BeginsBy, chosen_by_others, chosen_by_text, is_there}
use Rattle.kmip_ttlv_parts.specs.RuleParts.{parts_of}
use Rattle.kmip_ttlv_parts.specs.Forms.{Variants, enum, no_variants, variant, wrapped}
use Rattle.kmip_ttlv_parts.specs.Names.{number, tag_of}
use Rattle.kmip_ttlv_parts.specs.Returns.{IsNoneOf}
use Rattle.kmip_ttlv_parts.specs.Rules.{at_least, equal, in_brackets, member, rule, sides}
use Rattle.std.proofs.Common.{Bool as Boole}
use Rattle.kmip_ttlv_parts.specs.declared.types.TtlvType.{TtlvType}
use Rattle.kmip_ttlv_parts.specs.declared.types.TtlvType.TheVariants as types
use Rattle.kmip_ttlv_parts.specs.declared.enumeration.Enumeration.{Enumeration}
use Rattle.kmip_headers.specs.declared.header.CredentialValue.{CredentialValue}
use Rattle.kmip_headers.specs.declared.header.CredentialValue.TheVariants as credential_value
use Rattle.kmip_headers.specs.declared.header.AsynchronousIndicator.{AsynchronousIndicator}
use Rattle.kmip_headers.specs.declared.header.AsynchronousIndicator.TheVariants as asynchronous_indicator
use Rattle.kmip_headers.specs.declared.header.UsernameAndPassword.{UsernameAndPassword}
use Rattle.kmip_headers.specs.declared.header.Device.{Device}
use Rattle.kmip_ttlv_parts.specs.declared.kept.Kept.{Kept}

-- the texts of 420024 that choose a variant of a `CredentialValue` whatever the type of its item is
abbrev pub credential_value_names : List (List ℕ)
credential_value_names =
    codes "0x00000001" ∷
    codes "0x00000002" ∷
    []

-- what is said, if it is the text of 420024, chooses what is in a `CredentialValue`
abbrev pub ChoosesCredentialValue : {A : Type 0} → List ℕ → CredentialValue A → Type 0
ChoosesCredentialValue said (credential_value.UsernameAndPassword x) = (said ≡ codes "0x00000001")
ChoosesCredentialValue said (credential_value.Device x) = (said ≡ codes "0x00000002")
ChoosesCredentialValue said (credential_value.Other x) = IsNoneOf said credential_value_names

-- what each thing means that a `CredentialValue` may hold
pub record CredentialValueCases (A : Type 0) : Type 1 where
  pub username_and_password : UsernameAndPassword A → Meaning
  pub device : Device A → Meaning
  pub other : Kept A → Meaning

-- what it means
unfoldable pub credential_value_by : {A : Type 0} → CredentialValueCases A → CredentialValue A → Meaning
credential_value_by f (credential_value.UsernameAndPassword x) = f.username_and_password x
credential_value_by f (credential_value.Device x) = f.device x
credential_value_by f (credential_value.Other x) = f.other x

-- what a `CredentialValue` may hold
pub record CredentialValueItems (A : Type 0) (eq : CredentialValue A → CredentialValue A → Boole) : Type 1 where
  pub username_and_password : Held 0x420025 types.Structure credential_value.UsernameAndPassword eq
  pub device : Held 0x420025 types.Structure credential_value.Device eq
  pub other : Held 0x420025 types.Structure credential_value.Other eq

-- its variants, by their rules
abbrev pub credential_value_variants : {A : Type 0} {eq : CredentialValue A → CredentialValue A → Boole} → CredentialValueItems A eq → Variants
credential_value_variants i =
    variant (codes "if 0x420024==0x00000001") (wrapped i.username_and_password.form) (
    variant (codes "if 0x420024==0x00000002") (wrapped i.device.form) (
    variant (codes "if type==Structure") (wrapped i.other.form) no_variants))

abbrev pub credential_value_cases : {A : Type 0} {eq : CredentialValue A → CredentialValue A → Boole} → CredentialValueItems A eq → CredentialValueCases A
credential_value_cases i = record {
  username_and_password = as_item (codes "credential") (codes "if 0x420024==0x00000001") i.username_and_password;
  device = as_item (codes "credential") (codes "if 0x420024==0x00000002") i.device;
  other = as_item (codes "credential") (codes "if type==Structure") i.other;
}

-- the texts of 420024 that its rules ask for
abbrev pub credential_value_texts : List (List (List ℕ))
credential_value_texts =
    (codes "0x00000001" ∷ []) ∷
    (codes "0x00000002" ∷ []) ∷
    []

credential_value_begins : {A : Type 0} {eq : CredentialValue A → CredentialValue A → Boole} (i : CredentialValueItems A eq) → BeginsBy 0x420024 credential_value_texts (credential_value_variants i) (variant (codes "if type==Structure") (wrapped i.other.form) no_variants)
unfolding parts_of
credential_value_begins i = record { all = (refl, (refl, refl)) }

pub credential_value_case : {A : Type 0} {eq : CredentialValue A → CredentialValue A → Boole} (i : CredentialValueItems A eq) (x : CredentialValue A)
    → Case 0x420025 0x420024 types.Structure (enum (codes "credential") (credential_value_variants i)) (λ said. ChoosesCredentialValue said x) (credential_value_by (credential_value_cases i) x)
unfolding tag_of number rule sides equal at_least member in_brackets trim_end chars trim_start encode credential_value_by
credential_value_case i (credential_value.UsernameAndPassword x) = case_of i.username_and_password x (is_there _ 0 refl) (λ said chooses. chosen_by_text types.Structure (credential_value_begins i) chooses refl)
credential_value_case i (credential_value.Device x) = case_of i.device x (is_there _ 1 refl) (λ said chooses. chosen_by_text types.Structure (credential_value_begins i) chooses refl)
credential_value_case i (credential_value.Other x) = case_of i.other x (is_there _ 2 refl) (λ said none. chosen_by_others types.Structure (credential_value_begins i) none)

pub credential_value_same : {A : Type 0} {eq : CredentialValue A → CredentialValue A → Boole} (i : CredentialValueItems A eq) (x y : CredentialValue A)
    → (credential_value_by (credential_value_cases i) x).value ≡ (credential_value_by (credential_value_cases i) y).value
    → eq x y ≡ true
unfolding credential_value_by
credential_value_same i (credential_value.UsernameAndPassword x) (credential_value.UsernameAndPassword y) e = i.username_and_password.same x y (i.username_and_password.rules.same x y (in_variant e))
credential_value_same i (credential_value.Device x) (credential_value.Device y) e = i.device.same x y (i.device.rules.same x y (in_variant e))
credential_value_same i (credential_value.Other x) (credential_value.Other y) e = i.other.same x y (i.other.rules.same x y (in_variant e))
credential_value_same i x y e = absurd (apart e refl)

-- the choice
abbrev pub credential_value_choice : {A : Type 0} (eq : CredentialValue A → CredentialValue A → Boole) → CredentialValueItems A eq → ChoiceOf (CredentialValue A)
credential_value_choice eq i = choice_by {typ = (λ x. types.Structure)} {C = ChoosesCredentialValue} {m = credential_value_by (credential_value_cases i)} 0x420025 0x420024 (credential_value_case i) eq (credential_value_same i)

-- the type of the item of a `AsynchronousIndicator`
abbrev pub asynchronous_indicator_typ : AsynchronousIndicator → TtlvType
asynchronous_indicator_typ (asynchronous_indicator.Boolean x) = types.Boolean
asynchronous_indicator_typ (asynchronous_indicator.Enumeration x) = types.Enumeration

-- what each thing means that a `AsynchronousIndicator` may hold
pub record AsynchronousIndicatorCases : Type 1 where
  pub boolean : Boole → Meaning
  pub enumeration : ℕ → Meaning

-- what it means
unfoldable pub asynchronous_indicator_by : AsynchronousIndicatorCases → AsynchronousIndicator → Meaning
asynchronous_indicator_by f (asynchronous_indicator.Boolean x) = f.boolean x
asynchronous_indicator_by f (asynchronous_indicator.Enumeration x) = f.enumeration x

-- what a `AsynchronousIndicator` may hold
pub record AsynchronousIndicatorItems (eq : AsynchronousIndicator → AsynchronousIndicator → Boole) : Type 1 where
  pub boolean : Held 0x420007 types.Boolean asynchronous_indicator.Boolean eq
  pub enumeration : Held 0x420007 types.Enumeration asynchronous_indicator.Enumeration eq

-- its variants, by their rules
abbrev pub asynchronous_indicator_variants : {eq : AsynchronousIndicator → AsynchronousIndicator → Boole} → AsynchronousIndicatorItems eq → Variants
asynchronous_indicator_variants i =
    variant (codes "if type==Boolean") (wrapped i.boolean.form) (
    variant (codes "if type==Enumeration") (wrapped i.enumeration.form) no_variants)

abbrev pub asynchronous_indicator_cases : {eq : AsynchronousIndicator → AsynchronousIndicator → Boole} → AsynchronousIndicatorItems eq → AsynchronousIndicatorCases
asynchronous_indicator_cases i = record {
  boolean = as_item (codes "indicator") (codes "if type==Boolean") i.boolean;
  enumeration = as_item (codes "indicator") (codes "if type==Enumeration") i.enumeration;
}

pub asynchronous_indicator_case : {eq : AsynchronousIndicator → AsynchronousIndicator → Boole} (i : AsynchronousIndicatorItems eq) (x : AsynchronousIndicator)
    → TypedCase 0x420007 (asynchronous_indicator_typ x) (enum (codes "indicator") (asynchronous_indicator_variants i)) (asynchronous_indicator_by (asynchronous_indicator_cases i) x)
unfolding tag_of number rule sides equal at_least member in_brackets trim_end chars trim_start encode asynchronous_indicator_by
asynchronous_indicator_case i (asynchronous_indicator.Boolean x) = typed_case i.boolean x (is_there _ 0 refl) (λ k. refl)
asynchronous_indicator_case i (asynchronous_indicator.Enumeration x) = typed_case i.enumeration x (is_there _ 1 refl) (λ k. refl)

pub asynchronous_indicator_same : {eq : AsynchronousIndicator → AsynchronousIndicator → Boole} (i : AsynchronousIndicatorItems eq) (x y : AsynchronousIndicator)
    → (asynchronous_indicator_by (asynchronous_indicator_cases i) x).value ≡ (asynchronous_indicator_by (asynchronous_indicator_cases i) y).value
    → eq x y ≡ true
unfolding asynchronous_indicator_by
asynchronous_indicator_same i (asynchronous_indicator.Boolean x) (asynchronous_indicator.Boolean y) e = i.boolean.same x y (i.boolean.rules.same x y (in_variant e))
asynchronous_indicator_same i (asynchronous_indicator.Enumeration x) (asynchronous_indicator.Enumeration y) e = i.enumeration.same x y (i.enumeration.rules.same x y (in_variant e))
asynchronous_indicator_same i x y e = absurd (apart e refl)

-- the choice
abbrev pub asynchronous_indicator_choice : (eq : AsynchronousIndicator → AsynchronousIndicator → Boole) → AsynchronousIndicatorItems eq → ChoiceOf AsynchronousIndicator
asynchronous_indicator_choice eq i = choice_by_type {typ = asynchronous_indicator_typ} {m = asynchronous_indicator_by (asynchronous_indicator_cases i)} 0x420007 (asynchronous_indicator_case i) eq (asynchronous_indicator_same i)
