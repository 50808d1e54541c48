-- Beginnings of texts.
use Rattle.std.proofs.Common.{◌≡◌, ℕ, zero, suc, ◌+◌, ◌-◌, ◌*◌, ◌<◌, ◌≤◌, Bool, true, false, cond, ltb, leb, List, [], ◌∷◌, ◌++◌, length, take, drop, get_or}
use Rattle.std.proofs.Common.{Some, None, refl, sym, ap, subst, ◌∙◌, arith, inl, inr}
use Rattle.std.specs.List.{prefix_len}
use Rattle.std.specs.Str.{IsUtf8, IsAscii, IsCharBoundary}
use Rattle.std.proofs.lemmas.Str.Ascii.{IsAscii-nil, IsAscii-cons}
use Rattle.std.proofs.lemmas.Str.{IsUtf8-from_ascii, IsCharBoundary-from_take, IsCharBoundary-after_ascii}
use Rattle.std.proofs.lemmas.Bool.{cases_lt, and_right, lt-leb, lt-ltb, le-ltb}
use Rattle.kmip_ttlv_types.specs.declared.typ.TtlvType.{TtlvType, TheVariants.Structure}
use Rattle.kmip_ttlv_util.specs.Letters.{is_hex, letter, type_of_letter}
use Rattle.kmip_ttlv_util.proofs.Letters.{letter_type}
use Rattle.kmip_ttlv_util.specs.{Undiag.value_up_to, Lines.indent, declared.lines.TheConstants.SPACES}

-- a digit is ASCII
hex_ascii : (d : ℕ) → is_hex d ≡ true → d < 128
hex_ascii d h = elim (cases_lt d 128) [
  | inl lt ↦ lt
  | inr le ↦
      let a = lt-leb d 57 (omega arith) in
      let b = lt-leb d 70 (omega arith) in
      let k : is_hex d ≡ false = rw (a, b, and_right (leb 48 d) false refl, and_right (leb 65 d) false refl) refl in
      absurd cc
]

-- one more leading digit
ascii_step : (d : ℕ) (s : List ℕ) (n : ℕ) (b : Bool) → is_hex d ≡ b → ((i : ℕ) → get_or (take n s) i 0 < 128) → (i : ℕ)
    → get_or (take (cond b (1 + n) 0) (d ∷ s)) i 0 < 128
ascii_step d s n false h more i = omega arith
ascii_step d s n true h more zero = let e : 1 + n ≡ suc n = omega arith in rw e (hex_ascii d h)
ascii_step d s n true h more (suc i) = let e : 1 + n ≡ suc n = omega arith in rw e (more i)

-- leading digits are ASCII
front_ascii : (s : List ℕ) (i : ℕ) → get_or (take (prefix_len is_hex s) s) i 0 < 128
front_ascii [] i = omega arith
front_ascii (d ∷ s) i = ascii_step d s (prefix_len is_hex s) (is_hex d) refl (front_ascii s) i

-- a front that is longer by one
within_step : (n m : ℕ) (b : Bool) → n ≤ m → cond b (1 + n) 0 ≤ suc m
within_step n m true le = omega arith
within_step n m false le = omega arith

-- a front is within the text
front_within : (q : ℕ → Bool) (s : List ℕ) → prefix_len q s ≤ length s
front_within q [] = omega arith
front_within q (d ∷ s) = within_step (prefix_len q s) (length s) (q d) (front_within q s)

-- a text can be cut after its leading digits
pub hex_boundary : (s : List ℕ) (n : ℕ) → IsUtf8 s → n ≡ prefix_len is_hex s → IsCharBoundary s n
hex_boundary s n utf8 is = subst (λ (m : ℕ). IsCharBoundary s m) (sym is) (IsCharBoundary-from_take s (prefix_len is_hex s) utf8 (front_within is_hex s)
    (IsUtf8-from_ascii (take (prefix_len is_hex s) s) (front_ascii s)))

-- a type's letter is ASCII
letter_ascii : (t : TtlvType) → letter t < 128
letter_ascii Structure = omega arith
letter_ascii typ = omega arith

-- a text can be cut after a letter
pub letter_boundary : (s : List ℕ) (c : ℕ) (t : TtlvType) → IsUtf8 s → 0 < length s → c ≡ get_or s 0 0 → type_of_letter c ≡ Some t → IsCharBoundary s 1
letter_boundary s c t utf8 some is h = IsCharBoundary-after_ascii s 0 utf8 some (omega (arith, letter_type c t h, letter_ascii t))

-- without a colon there is no value
pub value_none : (s : List ℕ) (n : ℕ) → n ≡ length s → value_up_to s n ≡ None
value_none s n e = let off : ltb n (length s) ≡ false = le-ltb n (length s) (omega arith) in rw (off, and_right (ltb 0 n) false refl) refl

-- an empty value counts as none
pub value_empty : (s : List ℕ) (n : ℕ) → n ≡ 0 → value_up_to s n ≡ None
value_empty s n e = let off : ltb 0 n ≡ false = le-ltb 0 n (omega arith) in rw off refl

-- a value before a colon
pub value_some : (s : List ℕ) (n : ℕ) (v r : List ℕ) → 0 < n → n < length s → v ≡ take n s → r ≡ drop (n + 1) s → value_up_to s n ≡ Some (v, r)
value_some s n v r some lt e f = let a : ltb 0 n ≡ true = lt-ltb 0 n some in let b : ltb n (length s) ≡ true = lt-ltb n (length s) lt in rw (a, b, e, f) refl

-- one level more
pub indent_more : (d : ℕ) → indent (suc d) ≡ indent d ++ (32 ∷ 32 ∷ [])
indent_more zero = refl
indent_more (suc d) = ap (λ (s : List ℕ). 32 ∷ 32 ∷ s) (indent_more d)

-- some levels, one more, and the others
pub indent_parts : (d n : ℕ) → d < n → (indent d ++ (32 ∷ 32 ∷ [])) ++ indent (n - (d + 1)) ≡ indent n
indent_parts d zero lt = absurd (omega (arith, lt))
indent_parts zero (suc n) lt =
    let same : suc n - (0 + 1) ≡ n = omega arith in
    ap (λ (k : ℕ). 32 ∷ 32 ∷ indent k) same
indent_parts (suc d) (suc n) lt =
    let same : suc n - (suc d + 1) ≡ n - (d + 1) = omega arith in
    ap (λ (k : ℕ). 32 ∷ 32 ∷ ((indent d ++ (32 ∷ 32 ∷ [])) ++ indent k)) same ∙ ap (λ (s : List ℕ). 32 ∷ 32 ∷ s) (indent_parts d n (omega (arith, lt)))

-- fewer levels are the beginning of more
front_levels : (d n : ℕ) → d ≤ n → take (2 * d) (indent n) ≡ indent d
front_levels zero n le = refl
front_levels (suc d) zero le = absurd (omega arith)
front_levels (suc d) (suc n) le = let e : 2 * suc d ≡ suc (suc (2 * d)) = omega arith in
    rw e (ap (λ (s : List ℕ). 32 ∷ 32 ∷ s) (front_levels d n (omega arith)))

-- so up to sixteen levels are the beginning of the table of spaces
pub spaces_front : (d : ℕ) → d ≤ 16 → take (2 * d) SPACES ≡ indent d
spaces_front d le = front_levels d 16 le

-- an indent is ASCII
pub indent_ascii : (d : ℕ) → IsAscii (indent d)
indent_ascii zero = IsAscii-nil
indent_ascii (suc d) = IsAscii-cons 32 (32 ∷ indent d) (omega arith) (IsAscii-cons 32 (indent d) (omega arith) (indent_ascii d))
