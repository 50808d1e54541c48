-- Characters that stand in a line as they are.
use Rattle.std.proofs.Common.{◌≡◌, ◌≢◌, ℕ, zero, suc, ◌<◌, ◌≤◌, ◌==◌, ◌||◌, ◌&&◌, Bool, true, false, not}
use Rattle.std.proofs.Common.{List, [], ◌∷◌, ◌++◌, length, take, drop, flat_map}
use Rattle.std.proofs.Common.{ap, sym, refl, ◌∙◌, arith}
use Rattle.std.specs.Prelude.{nat_lt, nat_le}
use Rattle.std.specs.Char.{is_control}
use Rattle.std.specs.List.{list_all}
use Rattle.std.specs.Str.{chars, IsAscii, IsCharBoundary, IsUtf8}
use Rattle.std.proofs.lemmas.Bool.{ne_eqb, and_parts, lt-ltb, lt-leb, ltb-true}
use Rattle.std.proofs.lemmas.Str.{encode_ascii, chars-append, chars-IsAscii, IsUtf8-from_ascii, IsCharBoundary-from_take}
use Rattle.std.proofs.lemmas.Grind.{flat_map-append}
use Rattle.std.proofs.lemmas.List.{take-append-drop}
use Rattle.ttlv_run.specs.Columns.{in_range}
use Rattle.ttlv_run.specs.Escapes.{is_unseen, is_unseen_low, is_unseen_middle, is_unseen_high, is_bare_ascii, escaped_char, escape}

-- what a character that is shown is not
record Shown (b : ℕ) : Type 0 where
  least : 31 < b
  most : b < 127
  other : b ≢ 92

shown_is : (b : ℕ) → is_bare_ascii b ≡ true → Shown b
shown_is b is =
    let one = and_parts (nat_lt 31 b && nat_lt b 127) (not (b == 92)) is in
    let two = and_parts (nat_lt 31 b) (nat_lt b 127) one.0 in
    record { least = ltb-true 31 b two.0; most = ltb-true b 127 two.1; other = λ e. by (b == 92) (ap (λ (n : ℕ). n == 92) e) one.1 }
  where
    by : (t : Bool) → t ≡ true → not t ≡ true → ⊥
    by true e n = cc n
    by false e n = cc e

-- it is none of those above it, and in no range above it
none : (b n : ℕ) → b < 127 → 127 ≤ n → (b == n) ≡ false
none b n lt le = ne_eqb b n (λ e. omega (arith, e, lt, le))

below : (b least most : ℕ) → b < 127 → 127 ≤ least → in_range least most b ≡ false
below b least most lt le = ap (λ (t : Bool). not t && not (nat_lt most b)) (lt-ltb b least (omega (arith, lt, le)))

shown_seen : (b : ℕ) → Shown b → is_unseen b ≡ false
unfolding is_unseen
shown_seen b s =
    let l = s.most in
    let low : is_unseen_low b ≡ false = rw (
      none b 0xAD l (omega arith),
      none b 0x34F l (omega arith),
      none b 0x61C l (omega arith),
      below b 0x115F 0x1160 l (omega arith),
      below b 0x17B4 0x17B5 l (omega arith),
      below b 0x180B 0x180F l (omega arith),
    ) refl in
    let middle : is_unseen_middle b ≡ false = rw (
      below b 0x200B 0x200F l (omega arith),
      below b 0x2028 0x202E l (omega arith),
      below b 0x2060 0x206F l (omega arith),
      none b 0x3164 l (omega arith),
    ) refl in
    let high : is_unseen_high b ≡ false = rw (
      below b 0xFE00 0xFE0F l (omega arith),
      none b 0xFEFF l (omega arith),
      none b 0xFFA0 l (omega arith),
      below b 0xFFF0 0xFFFB l (omega arith),
      below b 0x1BCA0 0x1BCA3 l (omega arith),
      below b 0x1D173 0x1D17A l (omega arith),
      below b 0xE0000 0xE0FFF l (omega arith),
    ) refl in
    rw (low, middle, high) refl

shown_char : (b : ℕ) → is_bare_ascii b ≡ true → escaped_char b ≡ b ∷ []
unfolding escaped_char
shown_char b is =
    let s = shown_is b is in
    let control : is_control b ≡ false = rw (lt-leb b 31 s.least, lt-leb 127 b s.most) (by (nat_le 0 b)) in
    rw (
      ne_eqb b 0 (λ e. omega (arith, e, s.least)),
      ne_eqb b 9 (λ e. omega (arith, e, s.least)),
      ne_eqb b 10 (λ e. omega (arith, e, s.least)),
      ne_eqb b 13 (λ e. omega (arith, e, s.least)),
      ne_eqb b 92 s.other,
      control,
      shown_seen b s,
    ) (encode_ascii b (omega (arith, s.most)))
  where
    by : (a : Bool) → (a && false || false) ≡ false
    by true = refl
    by false = refl

front_chars : (front : List ℕ) → list_all is_bare_ascii front ≡ true → flat_map escaped_char front ≡ front
front_chars [] all = refl
front_chars (b ∷ front) all =
    let a = and_parts (is_bare_ascii b) (list_all is_bare_ascii front) all in
    ap (λ (t : List ℕ). t ++ flat_map escaped_char front) (shown_char b a.0) ∙ ap (λ (t : List ℕ). b ∷ t) (front_chars front a.1)

front_ascii : (front : List ℕ) → list_all is_bare_ascii front ≡ true → IsAscii front
front_ascii [] all i = omega arith
front_ascii (b ∷ front) all zero = omega (arith, (shown_is b (and_parts (is_bare_ascii b) (list_all is_bare_ascii front) all).0).most)
front_ascii (b ∷ front) all (suc i) = front_ascii front (and_parts (is_bare_ascii b) (list_all is_bare_ascii front) all).1 i

-- they stand in front of the rest of a text, escaped
pub front_escaped : (text : List ℕ) (n : ℕ) → list_all is_bare_ascii (take n text) ≡ true → take n text ++ escape (drop n text) ≡ escape text
unfolding escape
front_escaped text n all =
    let front = take n text in
    let rest = drop n text in
    let ascii = front_ascii front all in
    sym (ap (λ (t : List ℕ). flat_map escaped_char (chars t)) (sym (take-append-drop n text))
    ∙ ap (flat_map escaped_char) (chars-append front rest (IsUtf8-from_ascii front ascii) ∙ ap (λ (t : List ℕ). t ++ chars rest) (chars-IsAscii front ascii))
    ∙ flat_map-append escaped_char front (chars rest) ∙ ap (λ (t : List ℕ). t ++ flat_map escaped_char (chars rest)) (front_chars front all))

-- a text can be cut behind them
pub front_boundary : (text : List ℕ) (n : ℕ) → IsUtf8 text → n ≤ length text → list_all is_bare_ascii (take n text) ≡ true → IsCharBoundary text n
front_boundary text n utf8 le all = IsCharBoundary-from_take text n utf8 le (IsUtf8-from_ascii (take n text) (front_ascii (take n text) all))
