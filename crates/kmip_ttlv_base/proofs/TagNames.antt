-- The names of tags that are given by their numbers: each is the name of that tag, also behind the prefix of a wrapper.
use Rattle.std.proofs.Common.{◌≡◌, ◌≢◌, ℕ, ◌+◌, ◌/◌, ◌%◌, ◌<◌, ◌≤◌, ◌^◌, Bool, true, false, ◌&&◌, cond, eqb, ltb, List, ◌∷◌, length, Some, refl, ap, sym}
use Rattle.std.proofs.Common.{◌∙◌, arith}
use Rattle.std.specs.{Prelude.option_and_then, Char.digit_value, Char.is_digit, Fmt.digit_glyph, Str.Parse.digits_value, Str.Parse.without_leading_plus}
use Rattle.std.proofs.lemmas.Bool.{ltb-true, ltb-false, lt-ltb, le-ltb, ne_eqb, and_right}
use Rattle.kmip_ttlv_types.specs.Names.{tag_of, number, numeral, without_0x, all_digits, below_tag_limit, transparent_name}
use Rattle.kmip_ttlv_types.specs.Digits.{six_digits, tag_text}
use Rattle.kmip_ttlv_base.specs.Tags.{wrapper_name}

-- a digit's value
digit_is : (d : ℕ) → d < 16 → digit_value (digit_glyph true d) ≡ d
digit_is d small = by (ltb d 10) refl
  where
    by : (b : Bool) → ltb d 10 ≡ b → digit_value (cond b (48 + d) (55 + d)) ≡ d
    by true e = let lt : d < 10 = ltb-true d 10 e in rw (le-ltb (48 + d) 48 (omega arith), lt-ltb (48 + d) 58 (omega arith)) (omega arith)
    by false e = let le : 10 ≤ d = ltb-false d 10 e in rw (
      le-ltb (55 + d) 48 (omega arith),
      le-ltb (55 + d) 58 (omega arith),
      le-ltb (55 + d) 65 (omega arith),
      lt-ltb (55 + d) 91 (omega arith),
    ) (omega arith)

-- a digit is one of sixteen
is_hexadecimal : (d : ℕ) → d < 16 → is_digit (digit_glyph true d) 16 ≡ true
is_hexadecimal d small = rw (digit_is d small, lt-ltb d 16 small) refl

-- a digit is neither `+` nor `x`
no_sign : (d : ℕ) → d < 16 → (digit_glyph true d ≢ 43) × (digit_glyph true d ≢ 120)
no_sign d small = by (ltb d 10) refl
  where
    by : (b : Bool) → ltb d 10 ≡ b → (cond b (48 + d) (55 + d) ≢ 43) × (cond b (48 + d) (55 + d) ≢ 120)
    by true e = let lt : d < 10 = ltb-true d 10 e in (λ h. omega (arith, h), λ h. omega (arith, h, lt))
    by false e = (λ h. omega (arith, h), λ h. omega (arith, h, small))

and_both : (a b : Bool) → a ≡ true → b ≡ true → (a && b) ≡ true
and_both a b e f = rw (e, f) refl

six_are_digits : (n : ℕ) → all_digits 16 (six_digits n) ≡ true
unfolding six_digits
six_are_digits n = and_both _ _ (is_hexadecimal (n / 1048576 % 16) (omega arith)) (
    and_both _ _ (is_hexadecimal (n / 65536 % 16) (omega arith)) (
    and_both _ _ (is_hexadecimal (n / 4096 % 16) (omega arith)) (
    and_both _ _ (is_hexadecimal (n / 256 % 16) (omega arith)) (
    and_both _ _ (is_hexadecimal (n / 16 % 16) (omega arith)) (
    and_both _ _ (is_hexadecimal (n % 16) (omega arith)) refl)))))

six_are_number : (n : ℕ) → n < 2 ^ 24 → digits_value 16 (six_digits n) ≡ n
unfolding six_digits
six_are_number n small = rw (
  digit_is (n / 1048576 % 16) (omega arith),
  digit_is (n / 65536 % 16) (omega arith),
  digit_is (n / 4096 % 16) (omega arith),
  digit_is (n / 256 % 16) (omega arith),
  digit_is (n / 16 % 16) (omega arith),
  digit_is (n % 16) (omega arith),
) (omega arith)

numeral_is : (ds : List ℕ) (n : ℕ) → 0 < length ds → all_digits 16 ds ≡ true → digits_value 16 ds ≡ n → n < 2 ^ 24 → numeral ds ≡ Some n
numeral_is ds n some all is small = rw (lt-ltb 0 (length ds) some, all, is, lt-ltb n (2 ^ 32) (omega arith)) refl

named : (a b n : ℕ) (ds : List ℕ) → a ≢ 43 → b ≢ 120 → all_digits 16 (a ∷ b ∷ ds) ≡ true → digits_value 16 (a ∷ b ∷ ds) ≡ n → n < 2 ^ 24
    → tag_of (48 ∷ 120 ∷ a ∷ b ∷ ds) ≡ Some n
unfolding tag_of number
named a b n ds plus x all is small =
    let plain : without_0x (a ∷ b ∷ ds) ≡ a ∷ b ∷ ds = rw (ne_eqb b 120 x, and_right (eqb a 48) false refl) refl in
    let bare : without_leading_plus (a ∷ b ∷ ds) ≡ a ∷ b ∷ ds = rw (ne_eqb a 43 plus) refl in
    ap (λ (t : List ℕ). option_and_then below_tag_limit (numeral (without_leading_plus t))) plain
    ∙ ap (λ (t : List ℕ). option_and_then below_tag_limit (numeral t)) bare
    ∙ ap (option_and_then below_tag_limit) (numeral_is (a ∷ b ∷ ds) n (omega arith) all is small) ∙ rw (lt-ltb n (2 ^ 24) small) refl

-- the name of a tag's number is that tag
tag_of_text : (n : ℕ) → n < 2 ^ 24 → tag_of (tag_text n) ≡ Some n
unfolding six_digits
tag_of_text n small = named (digit_glyph true (n / 1048576 % 16)) (digit_glyph true (n / 65536 % 16)) n _ (no_sign (n / 1048576 % 16) (omega arith)).0
    (no_sign (n / 65536 % 16) (omega arith)).1 (six_are_digits n) (six_are_number n small) small

-- numbers of the same digits are written alike
same_digits : (m n : ℕ)
    → m / 1048576 % 16 ≡ n / 1048576 % 16 → m / 65536 % 16 ≡ n / 65536 % 16 → m / 4096 % 16 ≡ n / 4096 % 16
    → m / 256 % 16 ≡ n / 256 % 16 → m / 16 % 16 ≡ n / 16 % 16 → m % 16 ≡ n % 16
    → six_digits m ≡ six_digits n
unfolding six_digits
same_digits m n a b c d e f = rw (a, b, c, d, e, f) refl

-- as are a number and its last three bytes
six_of_rest : (n : ℕ) → six_digits (n % 2 ^ 24) ≡ six_digits n
six_of_rest n = same_digits (n % 2 ^ 24) n (omega arith) (omega arith) (omega arith) (omega arith) (omega arith) (omega arith)

-- the name of a number is the tag of its last three bytes
pub tag_of_number : (n : ℕ) → tag_of (tag_text n) ≡ Some (n % 2 ^ 24)
tag_of_number n = ap (λ ds. tag_of (48 ∷ 120 ∷ ds)) (sym (six_of_rest n)) ∙ tag_of_text (n % 2 ^ 24) (omega arith)

-- what follows the prefix of a wrapper's name is the tag's text
pub transparent_wrapper : (n : ℕ) → transparent_name (wrapper_name n) ≡ Some (tag_text n)
unfolding transparent_name six_digits
transparent_wrapper n = refl
