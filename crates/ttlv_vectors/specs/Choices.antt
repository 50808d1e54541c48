-- Written by codegen from types.table: change that, and run codegen/codegen.
-- Which rules choose what, and what is there of what may be.
use Rattle.std.proofs.Common.{refl, true}
use Rattle.std.proofs.Math.Logic.{⊎_elim}
use Rattle.std.specs.Prelude.{List, codes, ℕ, ◌≡◌, ◌⊎◌, [], ◌∷◌}
use Rattle.std.specs.Str.{chars, trim_end, trim_start}
use lib.Utf8.{encode}
use Rattle.kmip_ttlv_kinds.specs.Choices.{Case, ChoiceOf, Held, Meaning, TypedCase, as_item, case_of, choice_by, choice_by_type, typed_case}
use Rattle.kmip_ttlv_parts.proofs.Equal.{apart, in_variant}
use Rattle.kmip_ttlv_parts.proofs.ChoiceTexts.{BeginsBy, chosen_by_text, is_there}
use Rattle.kmip_ttlv_parts.specs.RuleParts.{parts_of}
use Rattle.kmip_ttlv_parts.specs.Forms.{Variants, enum, no_variants, variant, wrapped}
use Rattle.kmip_ttlv_parts.specs.Names.{number, tag_of}
use Rattle.kmip_ttlv_parts.specs.Rules.{at_least, equal, in_brackets, member, rule, sides}
use Rattle.std.proofs.Common.{Bool as Boole}
use Rattle.kmip_ttlv_parts.specs.declared.types.TtlvType.{TtlvType}
use Rattle.kmip_ttlv_parts.specs.declared.types.TtlvType.TheVariants as types
use Rattle.std.proofs.Common.{String, Vec}
use Rattle.std.proofs.Common.{ℤ}
use Rattle.ttlv_vectors.specs.declared.chosen.Said.{Said}
use Rattle.ttlv_vectors.specs.declared.chosen.Said.TheVariants as said
use Rattle.ttlv_vectors.specs.declared.chosen.More.{More}
use Rattle.ttlv_vectors.specs.declared.chosen.More.TheVariants as more
use Rattle.ttlv_vectors.specs.declared.chosen.Named.{Named}
use Rattle.ttlv_vectors.specs.declared.chosen.Named.TheVariants as named

-- the type of the item of a `Said`
abbrev pub said_typ : {A : Type 0} → Said A → TtlvType
said_typ (said.Line x) = types.TextString
said_typ (said.Count x) = types.Integer

-- what each thing means that a `Said` may hold
pub record SaidCases (A : Type 0) : Type 1 where
  pub line : String A → Meaning
  pub count : ℤ → Meaning

-- what it means
unfoldable pub said_by : {A : Type 0} → SaidCases A → Said A → Meaning
said_by f (said.Line x) = f.line x
said_by f (said.Count x) = f.count x

-- what a `Said` may hold
pub record SaidItems (A : Type 0) (eq : Said A → Said A → Boole) : Type 1 where
  pub line : Held 0x540071 types.TextString said.Line eq
  pub count : Held 0x540071 types.Integer said.Count eq

-- its variants, by their rules
abbrev pub said_variants : {A : Type 0} {eq : Said A → Said A → Boole} → SaidItems A eq → Variants
said_variants i =
    variant (codes "if type==TextString") (wrapped i.line.form) (
    variant (codes "if type==Integer") (wrapped i.count.form) no_variants)

abbrev pub said_cases : {A : Type 0} {eq : Said A → Said A → Boole} → SaidItems A eq → SaidCases A
said_cases i = record {
  line = as_item (codes "said") (codes "if type==TextString") i.line;
  count = as_item (codes "said") (codes "if type==Integer") i.count;
}

pub said_case : {A : Type 0} {eq : Said A → Said A → Boole} (i : SaidItems A eq) (x : Said A)
    → TypedCase 0x540071 (said_typ x) (enum (codes "said") (said_variants i)) (said_by (said_cases i) x)
unfolding tag_of number rule sides equal at_least member in_brackets trim_end chars trim_start encode said_by
said_case i (said.Line x) = typed_case i.line x (is_there _ 0 refl) (λ k. refl)
said_case i (said.Count x) = typed_case i.count x (is_there _ 1 refl) (λ k. refl)

pub said_same : {A : Type 0} {eq : Said A → Said A → Boole} (i : SaidItems A eq) (x y : Said A)
    → (said_by (said_cases i) x).value ≡ (said_by (said_cases i) y).value
    → eq x y ≡ true
unfolding said_by
said_same i (said.Line x) (said.Line y) e = i.line.same x y (i.line.rules.same x y (in_variant e))
said_same i (said.Count x) (said.Count y) e = i.count.same x y (i.count.rules.same x y (in_variant e))
said_same i x y e = absurd (apart e refl)

-- the choice
abbrev pub said_choice : {A : Type 0} (eq : Said A → Said A → Boole) → SaidItems A eq → ChoiceOf (Said A)
said_choice eq i = choice_by_type {typ = said_typ} {m = said_by (said_cases i)} 0x540071 (said_case i) eq (said_same i)

-- the type of the item of a `More`
abbrev pub more_typ : {A : Type 0} → More A → TtlvType
more_typ (more.Line x) = types.TextString
more_typ (more.Count x) = types.Integer

-- what each thing means that a `More` may hold
pub record MoreCases (A : Type 0) : Type 1 where
  pub line : String A → Meaning
  pub count : ℤ → Meaning

-- what it means
unfoldable pub more_by : {A : Type 0} → MoreCases A → More A → Meaning
more_by f (more.Line x) = f.line x
more_by f (more.Count x) = f.count x

-- what a `More` may hold
pub record MoreItems (A : Type 0) (eq : More A → More A → Boole) : Type 1 where
  pub line : Held 0x540073 types.TextString more.Line eq
  pub count : Held 0x540073 types.Integer more.Count eq

-- its variants, by their rules
abbrev pub more_variants : {A : Type 0} {eq : More A → More A → Boole} → MoreItems A eq → Variants
more_variants i =
    variant (codes "if type==TextString") (wrapped i.line.form) (
    variant (codes "if type==Integer") (wrapped i.count.form) no_variants)

abbrev pub more_cases : {A : Type 0} {eq : More A → More A → Boole} → MoreItems A eq → MoreCases A
more_cases i = record {
  line = as_item (codes "more") (codes "if type==TextString") i.line;
  count = as_item (codes "more") (codes "if type==Integer") i.count;
}

pub more_case : {A : Type 0} {eq : More A → More A → Boole} (i : MoreItems A eq) (x : More A)
    → TypedCase 0x540073 (more_typ x) (enum (codes "more") (more_variants i)) (more_by (more_cases i) x)
unfolding tag_of number rule sides equal at_least member in_brackets trim_end chars trim_start encode more_by
more_case i (more.Line x) = typed_case i.line x (is_there _ 0 refl) (λ k. refl)
more_case i (more.Count x) = typed_case i.count x (is_there _ 1 refl) (λ k. refl)

pub more_same : {A : Type 0} {eq : More A → More A → Boole} (i : MoreItems A eq) (x y : More A)
    → (more_by (more_cases i) x).value ≡ (more_by (more_cases i) y).value
    → eq x y ≡ true
unfolding more_by
more_same i (more.Line x) (more.Line y) e = i.line.same x y (i.line.rules.same x y (in_variant e))
more_same i (more.Count x) (more.Count y) e = i.count.same x y (i.count.rules.same x y (in_variant e))
more_same i x y e = absurd (apart e refl)

-- the choice
abbrev pub more_choice : {A : Type 0} (eq : More A → More A → Boole) → MoreItems A eq → ChoiceOf (More A)
more_choice eq i = choice_by_type {typ = more_typ} {m = more_by (more_cases i)} 0x540073 (more_case i) eq (more_same i)

-- what is said, if it is the text of 540070, chooses what is in a `Named`
abbrev pub ChoosesNamed : {A : Type 0} → List ℕ → Named A → Type 0
ChoosesNamed said (named.Line x) = (said ≡ codes "Label") ⊎ (said ≡ codes "Address")
ChoosesNamed said (named.Count x) = (said ≡ codes "Number")

-- the type of the item of a `Named`
abbrev pub named_typ : {A : Type 0} → Named A → TtlvType
named_typ (named.Line x) = types.TextString
named_typ (named.Count x) = types.Integer

-- what each thing means that a `Named` may hold
pub record NamedCases (A : Type 0) : Type 1 where
  pub line : String A → Meaning
  pub count : ℤ → Meaning

-- what it means
unfoldable pub named_by : {A : Type 0} → NamedCases A → Named A → Meaning
named_by f (named.Line x) = f.line x
named_by f (named.Count x) = f.count x

-- what a `Named` may hold
pub record NamedItems (A : Type 0) (eq : Named A → Named A → Boole) : Type 1 where
  pub line : Held 0x540072 types.TextString named.Line eq
  pub count : Held 0x540072 types.Integer named.Count eq

-- its variants, by their rules
abbrev pub named_variants : {A : Type 0} {eq : Named A → Named A → Boole} → NamedItems A eq → Variants
named_variants i =
    variant (codes "if 0x540070 in [Label, Address]") (wrapped i.line.form) (
    variant (codes "if 0x540070==Number") (wrapped i.count.form) no_variants)

abbrev pub named_cases : {A : Type 0} {eq : Named A → Named A → Boole} → NamedItems A eq → NamedCases A
named_cases i = record {
  line = as_item (codes "named") (codes "if 0x540070 in [Label, Address]") i.line;
  count = as_item (codes "named") (codes "if 0x540070==Number") i.count;
}

-- the texts of 540070 that its rules ask for
abbrev pub named_texts : List (List (List ℕ))
named_texts =
    (codes "Label" ∷ codes "Address" ∷ []) ∷
    (codes "Number" ∷ []) ∷
    []

named_begins : {A : Type 0} {eq : Named A → Named A → Boole} (i : NamedItems A eq) → BeginsBy 0x540070 named_texts (named_variants i) no_variants
unfolding parts_of
named_begins i = record { all = (refl, (refl, refl)) }

pub named_case : {A : Type 0} {eq : Named A → Named A → Boole} (i : NamedItems A eq) (x : Named A)
    → Case 0x540072 0x540070 (named_typ x) (enum (codes "named") (named_variants i)) (λ said. ChoosesNamed said x) (named_by (named_cases i) x)
unfolding named_by
named_case i (named.Line x) = case_of i.line x (is_there _ 0 refl) (λ said chooses. ⊎_elim (λ (e : said ≡ codes "Label"). chosen_by_text types.TextString (named_begins i) e refl) (λ (e : said ≡ codes "Address"). chosen_by_text types.TextString (named_begins i) e refl) chooses)
named_case i (named.Count x) = case_of i.count x (is_there _ 1 refl) (λ said chooses. chosen_by_text types.Integer (named_begins i) chooses refl)

pub named_same : {A : Type 0} {eq : Named A → Named A → Boole} (i : NamedItems A eq) (x y : Named A)
    → (named_by (named_cases i) x).value ≡ (named_by (named_cases i) y).value
    → eq x y ≡ true
unfolding named_by
named_same i (named.Line x) (named.Line y) e = i.line.same x y (i.line.rules.same x y (in_variant e))
named_same i (named.Count x) (named.Count y) e = i.count.same x y (i.count.rules.same x y (in_variant e))
named_same i x y e = absurd (apart e refl)

-- the choice
abbrev pub named_choice : {A : Type 0} (eq : Named A → Named A → Boole) → NamedItems A eq → ChoiceOf (Named A)
named_choice eq i = choice_by {typ = named_typ} {C = ChoosesNamed} {m = named_by (named_cases i)} 0x540072 0x540070 (named_case i) eq (named_same i)
