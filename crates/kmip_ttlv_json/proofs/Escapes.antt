-- JSON strings: what is escaped in texts, and that hexadecimal digits need no escape.
use Rattle.std.proofs.Common.{◌≡◌, ◌∙◌, ℕ, zero, suc, Bool, true, false, ◌+◌, ◌/◌, ◌%◌, ◌<◌, ◌≤◌, ◌&&◌, List, [], ◌∷◌, ◌++◌}
use Rattle.std.proofs.Common.{length, map, take, drop, get_or, if◌then◌else◌, inl, inr}
use Rattle.std.proofs.Common.{refl, sym, ap, ap₂, arith, append-nil, map-id}
use Rattle.std.specs.Prelude.{slice_index, flat_map, encode_utf8, nat_lt}
use Rattle.std.specs.Str.{chars, is_utf8, IsAscii}
use Rattle.std.proofs.lemmas.Bool.{cases_lt, lt-ltb, le-ltb, ltb-true, and_parts}
use Rattle.std.proofs.lemmas.{Grind.take_at_read, Grind.flat_map-append, List.take-append-drop}
use Rattle.std.proofs.lemmas.Str.{encode_ascii, inside_one, chars-IsAscii, IsUtf8-from_ascii, is_utf8-from_IsUtf8}
use lib.Utf8.{encode}
use Rattle.hex.specs.Hex.{upper_digits, encode_with, encode_upper}
use Rattle.json.specs.Print.{escape_byte, escape, quoted}
use Rattle.json.proofs.Printed.Strings.{escape_byte_plain}
use Rattle.kmip_ttlv_util.proofs.HexDigits.{glyph_cases}
use Rattle.kmip_ttlv_json.specs.Spellings.{by_number, is_late_control, char_text, chars_text, spelled}
use Rattle.kmip_ttlv_json.proofs.Hexadecimal.{glyph}

escape_high : (xs : List ℕ) → ((k : ℕ) → k < length xs → 128 ≤ get_or xs k 0) → escape xs ≡ xs
escape_high [] h = refl
escape_high (x ∷ xs) h =
    let high : 128 ≤ x = h 0 (omega arith) in
    ap₂ (λ (a b : List ℕ). a ++ b) (escape_byte_plain x (λ e. omega arith) (λ e. omega arith) (omega arith))
    (escape_high xs (λ k below. h (suc k) (omega arith)))

-- a character that is no control character from U+007F on stands as `serde_json` writes it
pub plain_char : (c : ℕ) → is_late_control c ≡ false → escape (encode c) ≡ char_text c
unfolding char_text
plain_char c other = elim (cases_lt c 128) [
  | inl small ↦
      ap escape (encode_ascii c small) ∙ append-nil (escape_byte c)
      ∙ sym (as_is ∙ ap (λ b. if b then escape_byte c else encode_utf8 c) (lt-ltb c 128 small))
  | inr big ↦
      let high : (k : ℕ) → k < length (encode c) → 128 ≤ get_or (encode c) k 0 = λ k below. elim (cases_lt (get_or (encode c) k 0) 128) [
        | inl low ↦ absurd (omega (arith, inside_one c [] (encode c) k (sym (append-nil _)) below low))
        | inr h ↦ h
      ] in
      escape_high (encode c) high ∙ sym (as_is ∙ ap (λ b. if b then escape_byte c else encode_utf8 c) (le-ltb c 128 big))
]
  where
    as_is : char_text c ≡ (if nat_lt c 128 then escape_byte c else encode_utf8 c)
    as_is = ap (λ (l : Bool). if l then by_number c else if nat_lt c 128 then escape_byte c else encode_utf8 c) other

-- a text, character by character
pub escaped_text : (text : List ℕ) → is_utf8 text ≡ true → flat_map char_text (chars text) ≡ chars_text text
escaped_text text valid = sym (ap (λ (b : Bool). if b then flat_map char_text (chars text) else escape text) valid)

-- one more
pub chars_more : (f : ℕ → List ℕ) (ys : List ℕ) (y : ℕ) → flat_map f (ys ++ (y ∷ [])) ≡ flat_map f ys ++ f y
chars_more f ys y = flat_map-append f ys (y ∷ []) ∙ ap (λ (s : List ℕ). flat_map f ys ++ s) (append-nil (f y))

-- the characters so far, this one, and the others
pub char_parts : (f : ℕ → List ℕ) (all seen : List ℕ) (x : ℕ) → map (λ c. c) seen ≡ take (length seen) all → length seen < length all
    → x ≡ get_or all (length seen) x → (flat_map f seen ++ f x) ++ flat_map f (drop (length seen + 1) all) ≡ flat_map f all
char_parts f all seen x far lt is =
    let n = length seen in
    let front : take (n + 1) all ≡ seen ++ (x ∷ []) = (take_at_read all n x lt).1 ∙ ap (λ (s : List ℕ). s ++ (get_or all n x ∷ [])) (sym far ∙ map-id seen)
    ∙ ap (λ (c : ℕ). seen ++ (c ∷ [])) (sym is) in
    ap (λ (s : List ℕ). s ++ flat_map f (drop (n + 1) all)) (sym (chars_more f seen x) ∙ ap (flat_map f) (sym front))
    ∙ sym (flat_map-append f (take (n + 1) all) (drop (n + 1) all)) ∙ ap (flat_map f) (take-append-drop (n + 1) all)

-- each is a printable ASCII character, or an earlier control character
abbrev pub AreLow : List ℕ → Type 0
AreLow [] = Unit {0}
AreLow (x ∷ xs) = (x < 127) × AreLow xs

low_ascii : (s : List ℕ) → AreLow s → IsAscii s
low_ascii [] h k = omega arith
low_ascii (x ∷ s) h zero = omega (arith, h.0)
low_ascii (x ∷ s) h (suc k) = low_ascii s h.1 k

low_char : (x : ℕ) → x < 127 → char_text x ≡ escape_byte x
unfolding char_text
low_char x lt = rw (le-ltb 126 x (omega (arith, lt)), lt-ltb x 128 (omega (arith, lt))) refl

low_chars : (s : List ℕ) → AreLow s → flat_map char_text s ≡ escape s
low_chars [] h = refl
low_chars (x ∷ s) h = ap₂ (λ (a b : List ℕ). a ++ b) (low_char x h.0) (low_chars s h.1)

abbrev pub are_low : List ℕ → Bool
are_low [] = true
are_low (x ∷ xs) = nat_lt x 127 && are_low xs

pub low_from : (s : List ℕ) → are_low s ≡ true → AreLow s
low_from [] e = tt
low_from (x ∷ s) e = let p = and_parts _ _ e in (ltb-true x 127 p.0, low_from s p.1)

-- such a text stands as `serde_json` writes it
pub spelled_low : (s : List ℕ) → AreLow s → spelled s ≡ quoted s
spelled_low s h =
    let ascii = low_ascii s h in
    ap (λ (t : List ℕ). 34 ∷ (t ++ 34 ∷ [])) (sym (escaped_text s (is_utf8-from_IsUtf8 s (IsUtf8-from_ascii s ascii)))
    ∙ ap (flat_map char_text) (chars-IsAscii s ascii) ∙ low_chars s h)

digit_low : (d : ℕ) → d < 16 → slice_index upper_digits d < 127
digit_low d lt = rw (glyph d lt) (glyph_cases (λ c. c < 127) d (λ low. omega (arith, low)) (λ high. omega (arith, lt)))

pub digits_low : (bytes : List ℕ) → ((k : ℕ) → get_or bytes k 0 < 256) → AreLow (encode_upper bytes)
unfolding encode_with
digits_low [] plain = tt
digits_low (b ∷ bytes) plain =
    let small : b < 256 = plain 0 in
    (digit_low (b / 16) (omega arith), (digit_low (b % 16) (omega arith), digits_low bytes (λ k. plain (suc k))))

-- a hexadecimal digit stands for itself
digit_plain : (d : ℕ) → d < 16 → escape_byte (slice_index upper_digits d) ≡ slice_index upper_digits d ∷ []
digit_plain d lt = rw (glyph d lt) (glyph_cases (λ c. escape_byte c ≡ c ∷ []) d
    (λ low. escape_byte_plain _ (λ e. omega arith) (λ e. omega arith) (omega arith))
    (λ high. escape_byte_plain _ (λ e. omega arith) (λ e. omega arith) (omega arith)))

pub escape_digits : (bytes : List ℕ) → ((k : ℕ) → get_or bytes k 0 < 256) → escape (encode_upper bytes) ≡ encode_upper bytes
unfolding encode_with
escape_digits [] plain = refl
escape_digits (b ∷ bytes) plain =
    let small : b < 256 = plain 0 in
    let high = slice_index upper_digits (b / 16) in
    let low = slice_index upper_digits (b % 16) in
    rw (digit_plain (b / 16) (omega arith), digit_plain (b % 16) (omega arith)) (ap (λ (s : List ℕ). high ∷ low ∷ s) (escape_digits bytes (λ k. plain (suc k))))
