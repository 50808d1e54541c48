-- Choices among variants: which stands at a place; and, where their rules ask for texts of one tag, which is chosen where the text is known.
use Rattle.std.proofs.Common.{◌≡◌, ◌+◌, ◌∙◌, ap, cond, refl, subst, ℕ, zero, suc, Bool as Boole, true, false, List, [], ◌∷◌, ◌++◌}
use Rattle.std.proofs.Common.{Option, Some, None, option_map}
use Rattle.std.specs.{List.list_any, Prelude.if◌then◌else◌, Prelude.◌||◌, Str.bytes_eq}
use Rattle.std.proofs.lemmas.{Bool.or_parts, Option.none-some, Option.same_Some}
use Rattle.kmip_ttlv_types.specs.declared.typ.TtlvType.{TtlvType}
use Rattle.kmip_ttlv_base.specs.Forms.{Content, Variants, no_variants, variant}
use Rattle.kmip_ttlv_reader.specs.{TagValues.TagValue, TagValues.last}
use Rattle.kmip_ttlv_reader.specs.RuleParts.{is_one_of, is_stored, parts_of}
use Rattle.kmip_ttlv_reader.specs.Rules.{Choice, choice, chosen, first_by, past, plain_verdict, rule}
use Rattle.kmip_ttlv_reader.proofs.PartLemmas.{said_by_texts}
use Rattle.kmip_ttlv_parts.specs.{Agreements.HasVariant, Agreements.first_variant, Agreements.later_variant, Returns.IsNoneOf}

-- ---- variants by their places

-- the name and the content of the variant at a place
abbrev pub variant_at : Variants → ℕ → Option (List ℕ × Content)
variant_at no_variants place = None
variant_at (variant name c vs) zero = Some (name, c)
variant_at (variant name c vs) (suc place) = variant_at vs place

-- one that is found there is there
pub is_there : {name : List ℕ} {c : Content} (vs : Variants) (place : ℕ) → variant_at vs place ≡ Some (name, c) → HasVariant vs place name c
is_there no_variants place found = absurd (none-some _ found)
is_there (variant other d vs) zero found =
    subst (λ x. HasVariant (variant other d vs) zero x.0 x.1) (same_Some (other, d) _ found) first_variant
is_there (variant other d vs) (suc place) found = later_variant (is_there vs place found)

-- ---- variants by texts

-- the variants begin with ones whose rules ask for these texts of one tag, and others follow
abbrev pub BeginBy : (tag : ℕ) (texts : List (List (List ℕ))) → Variants → (others : Variants) → Type 0
BeginBy t [] vs others = vs ≡ others
BeginBy t (texts ∷ more) (variant name c vs) others = (parts_of name ≡ Some (t, texts)) × BeginBy t more vs others
BeginBy t (texts ∷ more) no_variants others = ⊥

-- the place of the first that asks for a text
abbrev pub place_of : List ℕ → List (List (List ℕ)) → Option ℕ
place_of said [] = None
place_of said (texts ∷ more) = if list_any (bytes_eq said) texts then Some 0 else option_map (λ n. 1 + n) (place_of said more)

-- a choice that so many variants stand before
abbrev pub behind : List (List (List ℕ)) → Choice → Choice
behind [] c = c
behind (texts ∷ more) c = past 1 (behind more c)

-- all of their texts
abbrev pub all_texts : List (List (List ℕ)) → List (List ℕ)
all_texts [] = []
all_texts (texts ∷ more) = texts ++ all_texts more

-- what the rule of one says, where the text is known
rule_says : {t : ℕ} {said : List ℕ} {texts : List (List ℕ)} {b : Boole} (name : List ℕ) (ks : List TagValue) (typ : TtlvType) → parts_of name ≡ Some (t, texts)
    → last ks t ≡ Some said
    → list_any (bytes_eq said) texts ≡ b
    → rule name ks typ ≡ plain_verdict b
rule_says {t} {said} {texts} {b} name ks typ are found is =
    said_by_texts ks typ name t texts are ∙ ap plain_verdict (ap (is_one_of texts) found ∙ is)

-- the first that asks for the text is chosen
placed : (t : ℕ) (text : List ℕ) (place : ℕ) (typ : TtlvType) (texts : List (List (List ℕ))) (vs others : Variants) → BeginBy t texts vs others
    → place_of text texts ≡ Some place
    → (ks : List TagValue)
    → last ks t ≡ Some text
    → choice vs ks typ ≡ chosen place
placed t text place typ [] vs others begin at ks found = absurd (none-some _ at)
placed t text place typ (texts ∷ more) no_variants others begin at ks found = absurd begin
placed t text place typ (texts ∷ more) (variant name c vs) others begin at ks found =
    by (list_any (bytes_eq text) texts) refl at (λ n is. placed t text n typ more vs others begin.1 is ks found)
  where
    later : ((n : ℕ) → place_of text more ≡ Some n → choice vs ks typ ≡ chosen n) → (o : Option ℕ) → place_of text more ≡ o
        → option_map (λ n. 1 + n) o ≡ Some place
        → past 1 (choice vs ks typ) ≡ chosen place
    later those None is e = absurd (none-some _ e)
    later those (Some n) is e = ap (past 1) (those n is) ∙ ap chosen (same_Some _ _ e)

    by : (b : Boole) → list_any (bytes_eq text) texts ≡ b → cond b (Some 0) (option_map (λ n. 1 + n) (place_of text more)) ≡ Some place
        → ((n : ℕ) → place_of text more ≡ Some n → choice vs ks typ ≡ chosen n)
        → first_by (rule name ks typ) (choice vs ks typ) ≡ chosen place
    by true is e those = ap (λ v. first_by v (choice vs ks typ)) (rule_says name ks typ begin.0 found is) ∙ ap chosen (same_Some _ _ e)
    by false is e those =
        ap (λ v. first_by v (choice vs ks typ)) (rule_says name ks typ begin.0 found is) ∙ later those (place_of text more) refl e

-- the same, as a record
pub record BeginsBy (tag : ℕ) (texts : List (List (List ℕ))) (vs others : Variants) : Type 0 where
  pub all : BeginBy tag texts vs others

pub chosen_by_text : {t : ℕ} {said text : List ℕ} {place : ℕ} {texts : List (List (List ℕ))} {vs others : Variants} (typ : TtlvType)
    → BeginsBy t texts vs others
    → said ≡ text
    → place_of text texts ≡ Some place
    → (ks : List TagValue)
    → last ks t ≡ Some said
    → choice vs ks typ ≡ chosen place
chosen_by_text {t} {said} {text} {place} {texts} {vs} {others} typ begins is at ks found =
    placed t text place typ texts vs others begins.all at ks (found ∙ ap Some is)

none_in_front : (said : List ℕ) (xs ys : List (List ℕ)) → IsNoneOf said (xs ++ ys) → list_any (bytes_eq said) xs ≡ false
none_in_front said [] ys none = refl
none_in_front said (x ∷ xs) ys none =
    let each = or_parts (bytes_eq said x) _ none in
    rw (each.0, none_in_front said xs ys each.1) refl

none_behind : (said : List ℕ) (xs ys : List (List ℕ)) → IsNoneOf said (xs ++ ys) → IsNoneOf said ys
none_behind said [] ys none = none
none_behind said (x ∷ xs) ys none = none_behind said xs ys (or_parts (bytes_eq said x) _ none).1

none_placed : (t : ℕ) (said : List ℕ) (typ : TtlvType) (texts : List (List (List ℕ))) (vs others : Variants) → BeginBy t texts vs others
    → IsNoneOf said (all_texts texts)
    → (ks : List TagValue)
    → last ks t ≡ Some said
    → choice vs ks typ ≡ behind texts (choice others ks typ)
none_placed t said typ [] vs others begin none ks found = ap (λ ws. choice ws ks typ) begin
none_placed t said typ (texts ∷ more) no_variants others begin none ks found = absurd begin
none_placed t said typ (texts ∷ more) (variant name c vs) others begin none ks found =
    ap (λ v. first_by v (choice vs ks typ)) (rule_says name ks typ begin.0 found (none_in_front said texts (all_texts more) none))
    ∙ ap (past 1) (none_placed t said typ more vs others begin.1 (none_behind said texts (all_texts more) none) ks found)

-- none of them is chosen, if none asks for the text: what the others choose is
pub chosen_by_others : {t : ℕ} {said : List ℕ} {texts : List (List (List ℕ))} {vs others : Variants} (typ : TtlvType) → BeginsBy t texts vs others
    → IsNoneOf said (all_texts texts)
    → (ks : List TagValue)
    → last ks t ≡ Some said
    → choice vs ks typ ≡ behind texts (choice others ks typ)
chosen_by_others {t} {said} {texts} {vs} {others} typ begins none ks found = none_placed t said typ texts vs others begins.all none ks found
