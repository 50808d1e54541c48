-- The text of a number, and the variant that it names.
use Rattle.std.proofs.Common.{◌≡◌, ℕ, ◌+◌, ◌<◌, ◌≤◌, ◌/◌, ◌%◌, ◌==◌, true, false, cond, List, [], ◌∷◌, length, get_or, drop, Some, None, refl, sym, ap, ◌∙◌}
use Rattle.std.proofs.Common.{arith}
use Rattle.std.specs.{Str.bytes_eq, Fmt.digit_glyph}
use Rattle.std.proofs.lemmas.{Bool.eqb-true, Bool.true_from_ne_false, List.drop_more, List.drop_all}
use Rattle.kmip_ttlv_types.specs.{ItemTypes.fixed_length, Leaves.is_valid, declared.typ.TtlvType.TtlvType}
use Rattle.kmip_ttlv_types.specs.declared.typ.TtlvType.TheVariants.{Boolean, Enumeration, Integer}
use Rattle.kmip_ttlv_base.specs.Forms.{any_number, content_of, variants_of}
use Rattle.kmip_ttlv_base.specs.declared.shape.VariantShape.{VariantShape}
use Rattle.kmip_ttlv_reader.specs.Reads.{first_named, is_number_type, number_text, takes}

-- the text of four bytes, digit by digit
pub four_texts : (content : List ℕ) → length content ≡ 4
    → 48 ∷ 120 ∷ digit_glyph true (get_or content 0 0 / 16) ∷ digit_glyph true (get_or content 0 0 % 16)
    ∷ digit_glyph true (get_or content 1 0 / 16) ∷ digit_glyph true (get_or content 1 0 % 16)
    ∷ digit_glyph true (get_or content 2 0 / 16) ∷ digit_glyph true (get_or content 2 0 % 16)
    ∷ digit_glyph true (get_or content 3 0 / 16) ∷ digit_glyph true (get_or content 3 0 % 16) ∷ []
    ≡ number_text content
four_texts [] e = absurd (omega (arith, e))
four_texts (a ∷ []) e = absurd (omega (arith, e))
four_texts (a ∷ b ∷ []) e = absurd (omega (arith, e))
four_texts (a ∷ b ∷ c ∷ []) e = absurd (omega (arith, e))
four_texts (a ∷ b ∷ c ∷ d ∷ []) e = refl
four_texts (a ∷ b ∷ c ∷ d ∷ x ∷ xs) e = absurd (omega (arith, e))

-- a variant on the way
named_at : {A : Type 0} (name : List ℕ) (vs : List (VariantShape A)) (i : ℕ) (v : VariantShape A) → i < length vs → v ≡ get_or vs i v
    → first_named name (variants_of (drop i vs)) ≡ cond (bytes_eq v.name.now name) (Some (content_of v.content))
    (first_named name (variants_of (drop (i + 1) vs)))
named_at name vs i v lt is = ap (λ l. first_named name (variants_of l)) (drop_more vs i v lt)
    ∙ ap (λ w. cond (bytes_eq w.name.now name) (Some (content_of w.content)) (first_named name (variants_of (drop (i + 1) vs)))) (sym is)

pub named_here : {A : Type 0} (name : List ℕ) (vs : List (VariantShape A)) (i : ℕ) (v : VariantShape A) → i < length vs → v ≡ get_or vs i v
    → true ≡ bytes_eq v.name.now name → first_named name (variants_of vs) ≡ first_named name (variants_of (drop i vs))
    → Some (content_of v.content) ≡ first_named name (variants_of vs)
named_here name vs i v lt is same h =
    sym (h ∙ named_at name vs i v lt is ∙ ap (λ b. cond b (Some (content_of v.content)) (first_named name (variants_of (drop (i + 1) vs)))) (sym same))

pub named_later : {A : Type 0} (name : List ℕ) (vs : List (VariantShape A)) (i : ℕ) (v : VariantShape A) → i < length vs → v ≡ get_or vs i v
    → false ≡ bytes_eq v.name.now name → first_named name (variants_of vs) ≡ first_named name (variants_of (drop i vs))
    → first_named name (variants_of vs) ≡ first_named name (variants_of (drop (i + 1) vs))
named_later name vs i v lt is differs h = h ∙ named_at name vs i v lt is
    ∙ ap (λ b. cond b (Some (content_of v.content)) (first_named name (variants_of (drop (i + 1) vs)))) (sym differs)

pub named_nowhere : {A : Type 0} (name : List ℕ) (vs : List (VariantShape A)) (i : ℕ) → length vs ≤ i → first_named name (variants_of vs) ≡ first_named name
    (variants_of (drop i vs)) → None ≡ first_named name (variants_of vs)
named_nowhere name vs i le h = sym (h ∙ ap (λ l. first_named name (variants_of l)) (drop_all i vs le))

-- a valid leaf has the length that its type wants
pub valid_length : (t : TtlvType) (c : List ℕ) (w : ℕ) → is_valid t c ≡ true → fixed_length t ≡ Some w → (length c == w) ≡ true
valid_length Boolean c w valid is = let eight : (length c == 8) ≡ true = true_from_ne_false _ (λ h. let no : is_valid Boolean c ≡ false = rw h refl in
    absurd cc) in cc
valid_length t c w valid is = cc

-- an Integer or an Enumeration has four bytes
pub number_length : (t : TtlvType) → is_number_type t ≡ true → fixed_length t ≡ Some 4
number_length Integer e = refl
number_length t e = cc

pub number_four : (t : TtlvType) (content : List ℕ) → is_number_type t ≡ true → is_valid t content ≡ true → length content ≡ 4
number_four t content e valid = eqb-true (length content) 4 (valid_length t content 4 valid (number_length t e))

-- and so has an Enumeration of any number
pub any_number_four : (t : TtlvType) (content : List ℕ) → takes any_number t ≡ true → is_valid t content ≡ true → length content ≡ 4
any_number_four Enumeration content e valid = eqb-true (length content) 4 valid
any_number_four t content e valid = absurd cc
