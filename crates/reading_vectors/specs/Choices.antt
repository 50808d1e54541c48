-- Written by codegen from types.table: change that, and run codegen/codegen.
-- Which rules choose what, and what is there of what may be.
use Rattle.std.proofs.Common.{refl, true}
use Rattle.std.specs.Prelude.{List, codes, ℕ, ◌≡◌, [], ◌∷◌}
use Rattle.std.specs.Str.{chars, trim_end, trim_start}
use lib.Utf8.{encode}
use Rattle.kmip_ttlv_kinds.specs.Choices.{Case, ChoiceOf, Held, Meaning, as_item, case_of, choice_by}
use Rattle.kmip_ttlv_parts.proofs.Equal.{apart, in_variant}
use Rattle.kmip_ttlv_parts.proofs.ChoiceTexts.{BeginsBy, chosen_by_others, chosen_by_text, is_there}
use Rattle.kmip_ttlv_parts.specs.RuleParts.{parts_of}
use Rattle.kmip_ttlv_parts.specs.Forms.{Variants, enum, no_variants, variant, wrapped}
use Rattle.kmip_ttlv_parts.specs.Names.{number, tag_of}
use Rattle.kmip_ttlv_parts.specs.Returns.{IsNoneOf}
use Rattle.kmip_ttlv_parts.specs.Rules.{at_least, equal, in_brackets, member, rule, sides}
use Rattle.std.proofs.Common.{Bool as Boole}
use Rattle.kmip_ttlv_parts.specs.declared.types.TtlvType.{TtlvType}
use Rattle.kmip_ttlv_parts.specs.declared.types.TtlvType.TheVariants as types
use Rattle.std.proofs.Common.{String, Vec}
use Rattle.std.proofs.Common.{ℤ}
use Rattle.reading_vectors.specs.declared.selves.Detail.{Detail}
use Rattle.reading_vectors.specs.declared.selves.Detail.TheVariants as detail
use Rattle.reading_vectors.specs.declared.selves.Point.{Point}

-- the texts of BBBBBB that choose a variant of a `Detail` whatever the type of its item is
abbrev pub detail_names : List (List ℕ)
detail_names =
    codes "0x00000001" ∷
    []

-- what is said, if it is the text of BBBBBB, chooses what is in a `Detail`
abbrev pub ChoosesDetail : {A : Type 0} → List ℕ → Detail A → Type 0
ChoosesDetail said (detail.Point x) = (said ≡ codes "0x00000001")
ChoosesDetail said (detail.Text x) = IsNoneOf said detail_names
ChoosesDetail said (detail.Mark x) = IsNoneOf said detail_names

-- the type of the item of a `Detail`
abbrev pub detail_typ : {A : Type 0} → Detail A → TtlvType
detail_typ (detail.Point x) = types.Structure
detail_typ (detail.Text x) = types.TextString
detail_typ (detail.Mark x) = types.Integer

-- what each thing means that a `Detail` may hold
pub record DetailCases (A : Type 0) : Type 1 where
  pub point : Point → Meaning
  pub text : String A → Meaning
  pub mark : ℤ → Meaning

-- what it means
unfoldable pub detail_by : {A : Type 0} → DetailCases A → Detail A → Meaning
detail_by f (detail.Point x) = f.point x
detail_by f (detail.Text x) = f.text x
detail_by f (detail.Mark x) = f.mark x

-- what a `Detail` may hold
pub record DetailItems (A : Type 0) (eq : Detail A → Detail A → Boole) : Type 1 where
  pub point : Held 0xDDDDDD types.Structure detail.Point eq
  pub text : Held 0xDDDDDD types.TextString detail.Text eq
  pub mark : Held 0xDDDDDD types.Integer detail.Mark eq

-- its variants, by their rules
abbrev pub detail_variants : {A : Type 0} {eq : Detail A → Detail A → Boole} → DetailItems A eq → Variants
detail_variants i =
    variant (codes "if 0xBBBBBB==0x00000001") (wrapped i.point.form) (
    variant (codes "if type==TextString") (wrapped i.text.form) (
    variant (codes "if type==Integer") (wrapped i.mark.form) no_variants))

abbrev pub detail_cases : {A : Type 0} {eq : Detail A → Detail A → Boole} → DetailItems A eq → DetailCases A
detail_cases i = record {
  point = as_item (codes "detail") (codes "if 0xBBBBBB==0x00000001") i.point;
  text = as_item (codes "detail") (codes "if type==TextString") i.text;
  mark = as_item (codes "detail") (codes "if type==Integer") i.mark;
}

-- the texts of BBBBBB that its rules ask for
abbrev pub detail_texts : List (List (List ℕ))
detail_texts =
    (codes "0x00000001" ∷ []) ∷
    []

detail_begins : {A : Type 0} {eq : Detail A → Detail A → Boole} (i : DetailItems A eq) → BeginsBy 0xBBBBBB detail_texts (detail_variants i) (variant (codes "if type==TextString") (wrapped i.text.form) (variant (codes "if type==Integer") (wrapped i.mark.form) no_variants))
unfolding parts_of
detail_begins i = record { all = (refl, refl) }

pub detail_case : {A : Type 0} {eq : Detail A → Detail A → Boole} (i : DetailItems A eq) (x : Detail A)
    → Case 0xDDDDDD 0xBBBBBB (detail_typ x) (enum (codes "detail") (detail_variants i)) (λ said. ChoosesDetail said x) (detail_by (detail_cases i) x)
unfolding tag_of number rule sides equal at_least member in_brackets trim_end chars trim_start encode detail_by
detail_case i (detail.Point x) = case_of i.point x (is_there _ 0 refl) (λ said chooses. chosen_by_text types.Structure (detail_begins i) chooses refl)
detail_case i (detail.Text x) = case_of i.text x (is_there _ 1 refl) (λ said none. chosen_by_others types.TextString (detail_begins i) none)
detail_case i (detail.Mark x) = case_of i.mark x (is_there _ 2 refl) (λ said none. chosen_by_others types.Integer (detail_begins i) none)

pub detail_same : {A : Type 0} {eq : Detail A → Detail A → Boole} (i : DetailItems A eq) (x y : Detail A)
    → (detail_by (detail_cases i) x).value ≡ (detail_by (detail_cases i) y).value
    → eq x y ≡ true
unfolding detail_by
detail_same i (detail.Point x) (detail.Point y) e = i.point.same x y (i.point.rules.same x y (in_variant e))
detail_same i (detail.Text x) (detail.Text y) e = i.text.same x y (i.text.rules.same x y (in_variant e))
detail_same i (detail.Mark x) (detail.Mark y) e = i.mark.same x y (i.mark.rules.same x y (in_variant e))
detail_same i x y e = absurd (apart e refl)

-- the choice
abbrev pub detail_choice : {A : Type 0} (eq : Detail A → Detail A → Boole) → DetailItems A eq → ChoiceOf (Detail A)
detail_choice eq i = choice_by {typ = detail_typ} {C = ChoosesDetail} {m = detail_by (detail_cases i)} 0xDDDDDD 0xBBBBBB (detail_case i) eq (detail_same i)
