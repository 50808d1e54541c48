-- The last hexadecimal digits of a number, and all of them.
use Rattle.std.proofs.Common.{◌≡◌, ℕ, zero, suc, ◌+◌, ◌-◌, ◌*◌, ◌/◌, ◌%◌, ◌^◌, ◌<◌, ◌≤◌, Bool, true, false, ◌&&◌, T, eqb, eqb→eq, cond, ltb, List, [], ◌∷◌}
use Rattle.std.proofs.Common.{◌++◌, length, take, drop, get_or, refl, sym, ap, ◌∙◌, arith, append_assoc, append-nil, length-append, length-drop, take_all, inl}
use Rattle.std.proofs.Common.{inr}
use Rattle.std.specs.{Prelude.replicate, Str.IsAscii}
use Rattle.std.specs.Fmt.{digit_glyph, digits, digits_onto}
use Rattle.std.proofs.Math.Nat.{pow-suc, pow-succ', pow-le-pow_right, div-div-eq-div-mul, mul_assoc}
use Rattle.std.proofs.lemmas.{Nat.pow-add, Str.IsAscii-append, Str.Ascii.IsAscii-nil, Str.Ascii.IsAscii-cons}
use Rattle.std.proofs.lemmas.List.{drop-append-le, drop_all, take_more}
use Rattle.std.proofs.lemmas.Bool.{eq-eqb, ne_eqb, cases_lt, ltb-true, ltb-false}
use lib.Ieee.Fits.{and_l, and_r}
use Rattle.kmip_ttlv_util.specs.{declared.digits.TheConstants.PAIRS, LastDigits.last_digits, Lines.at_least, Outlines.hex_upper}

-- ---- the table

-- the table has the two digits of every byte below a limit
abbrev are_pairs : ℕ → Bool
are_pairs zero = true
are_pairs (suc b) = (eqb (get_or PAIRS (b * 2) 0) (digit_glyph true (b / 16)) && eqb (get_or PAIRS (b * 2 + 1) 0) (digit_glyph true (b % 16))) && are_pairs b

below : (n b : ℕ) → T (are_pairs n) → b < n → (get_or PAIRS (b * 2) 0 ≡ digit_glyph true (b / 16)) × (get_or PAIRS (b * 2 + 1) 0 ≡ digit_glyph true (b % 16))
below zero b t h = absurd (omega arith)
below (suc n) b t h = elim (cases_lt b n) [
  | inl lt ↦ below n b (and_r _ (are_pairs n) t) lt
  | inr ge ↦ let e : b ≡ n = omega arith in let a = and_l _ (are_pairs n) t in rw e (eqb→eq _ _ (and_l _ _ a), eqb→eq _ _ (and_r _ _ a))
]

-- so the two digits of a byte are in it
PAIRS_at : (b : ℕ) → b < 256 → (get_or PAIRS (b * 2) 0 ≡ digit_glyph true (b / 16)) × (get_or PAIRS (b * 2 + 1) 0 ≡ digit_glyph true (b % 16))
PAIRS_at b h = below 256 b tt h

-- as a list
pub pairs_two : (b : ℕ) → b < 256 → get_or PAIRS (b * 2) 0 ∷ get_or PAIRS (b * 2 + 1) 0 ∷ [] ≡ digit_glyph true (b / 16) ∷ digit_glyph true (b % 16) ∷ []
pairs_two b small = let p = PAIRS_at b small in rw (p.0, p.1) refl

-- a list of eight numbers
eight_same : {a b c d e f g h i j k l m n o p : ℕ} → a ≡ i → b ≡ j → c ≡ k → d ≡ l → e ≡ m → f ≡ n → g ≡ o → h ≡ p
    → a ∷ b ∷ c ∷ d ∷ e ∷ f ∷ g ∷ h ∷ [] ≡ i ∷ j ∷ k ∷ l ∷ m ∷ n ∷ o ∷ p ∷ []
eight_same p1 p2 p3 p4 p5 p6 p7 p8 = cc

digit_at : (x m n : ℕ) → x ≡ digit_glyph true m → m ≡ n → x ≡ digit_glyph true n
digit_at x m n e h = e ∙ ap (digit_glyph true) h

-- the digits of four bytes are those of their number
pub pairs_eight : (n : ℕ) → n < 2 ^ 32
    → get_or PAIRS (n / 16777216 * 2) 0 ∷ get_or PAIRS (n / 16777216 * 2 + 1) 0 ∷ get_or PAIRS (n / 65536 % 256 * 2) 0 ∷ get_or PAIRS
    (n / 65536 % 256 * 2 + 1) 0
    ∷ get_or PAIRS (n / 256 % 256 * 2) 0 ∷ get_or PAIRS (n / 256 % 256 * 2 + 1) 0 ∷ get_or PAIRS (n % 256 * 2) 0 ∷ get_or PAIRS (n % 256 * 2 + 1) 0 ∷ []
    ≡ last_digits 8 n
unfolding last_digits
pairs_eight n small =
    let a = PAIRS_at (n / 16777216) (omega arith) in
    let b = PAIRS_at (n / 65536 % 256) (omega arith) in
    let c = PAIRS_at (n / 256 % 256) (omega arith) in
    let d = PAIRS_at (n % 256) (omega arith) in
    eight_same (digit_at _ (n / 16777216 / 16) _ a.0 (omega arith)) (digit_at _ (n / 16777216 % 16) _ a.1 (omega arith))
    (digit_at _ (n / 65536 % 256 / 16) _ b.0 (omega arith)) (digit_at _ (n / 65536 % 256 % 16) _ b.1 (omega arith))
    (digit_at _ (n / 256 % 256 / 16) _ c.0 (omega arith)) (digit_at _ (n / 256 % 256 % 16) _ c.1 (omega arith))
    (digit_at _ (n % 256 / 16) _ d.0 (omega arith)) (digit_at _ (n % 256 % 16) _ d.1 (omega arith))

-- ---- the last digits

-- there are this many digits
pub last_length : (k n : ℕ) → length (last_digits k n) ≡ k
unfolding last_digits
last_length zero n = refl
last_length (suc k) n = omega (arith, last_length k (n / 16), length-append (last_digits k (n / 16)) (digit_glyph true (n % 16) ∷ []))

-- a digit is one of ten, or a letter
pub glyph_cases : (P : ℕ → Type 0) (d : ℕ) → (d < 10 → P (48 + d)) → (10 ≤ d → P (55 + d)) → P (digit_glyph true d)
glyph_cases P d low high = by (ltb d 10) refl
  where
    by : (b : Bool) → ltb d 10 ≡ b → P (cond b (48 + d) (55 + d))
    by true e = low (ltb-true d 10 e)
    by false e = high (ltb-false d 10 e)

glyph_ascii : (d : ℕ) → d < 16 → digit_glyph true d < 128
glyph_ascii d small = glyph_cases (λ c. c < 128) d (λ lt. omega arith) (λ le. omega arith)

-- in ASCII
pub last_ascii : (k n : ℕ) → IsAscii (last_digits k n)
unfolding last_digits
last_ascii zero n = IsAscii-nil
last_ascii (suc k) n = IsAscii-append (last_digits k (n / 16)) _ (last_ascii k (n / 16)) (IsAscii-cons _ [] (glyph_ascii (n % 16) (omega arith)) IsAscii-nil)

-- fewer of them are the end of more
pub last_drop : (w m n : ℕ) → m ≤ w → drop (w - m) (last_digits w n) ≡ last_digits m n
unfolding last_digits
last_drop zero zero n le = refl
last_drop (suc w) zero n le =
    let all : length (last_digits w (n / 16) ++ (digit_glyph true (n % 16) ∷ [])) ≤ suc w - 0 =
    omega (arith, last_length w (n / 16), length-append (last_digits w (n / 16)) (digit_glyph true (n % 16) ∷ [])) in
    drop_all (suc w - 0) _ all
last_drop zero (suc m) n le = absurd (omega arith)
last_drop (suc w) (suc m) n le =
    let e : suc w - suc m ≡ w - m = omega arith in
    rw (e, drop-append-le (w - m) (last_digits w (n / 16)) (digit_glyph true (n % 16) ∷ []) (omega (arith, last_length w (n / 16))))
    (ap (λ (s : List ℕ). s ++ (digit_glyph true (n % 16) ∷ [])) (last_drop w m (n / 16) (omega arith)))

-- so the end of the eight digits
pub end_of : (start size n : ℕ) (eight : List ℕ) → start + size ≡ 8 → eight ≡ last_digits 8 n → take size (drop start eight) ≡ last_digits size n
end_of start size n eight all is =
    let few : length (drop start eight) ≤ size = omega (arith, length-drop start eight, ap length is, last_length 8 n) in
    let begins : start ≡ 8 - size = omega arith in
    take_all size (drop start eight) few ∙ ap (drop start) is ∙ ap (λ (k : ℕ). drop k (last_digits 8 n)) begins ∙ last_drop 8 size n (omega arith)

-- and six of the eight, one by one
pub six_of : (eight : List ℕ) (n : ℕ) → eight ≡ last_digits 8 n
    → get_or eight 2 0 ∷ get_or eight 3 0 ∷ get_or eight 4 0 ∷ get_or eight 5 0 ∷ get_or eight 6 0 ∷ get_or eight 7 0 ∷ [] ≡ last_digits 6 n
unfolding last_digits
six_of eight n is = rw is refl

-- and the shown digits of a number, if there are six
pub six_shown : (least count n : ℕ) (eight : List ℕ) → eight ≡ last_digits 8 n → count ≡ 6 → last_digits count n ≡ at_least least (hex_upper n)
    → get_or eight 2 0 ∷ get_or eight 3 0 ∷ get_or eight 4 0 ∷ get_or eight 5 0 ∷ get_or eight 6 0 ∷ get_or eight 7 0 ∷ [] ≡ at_least least (hex_upper n)
six_shown least count n eight is six shown = six_of eight n is ∙ ap (λ (k : ℕ). last_digits k n) (sym six) ∙ shown

-- and the last two
pub two_of : (eight : List ℕ) (n : ℕ) → eight ≡ last_digits 8 n → get_or eight 6 0 ∷ get_or eight 7 0 ∷ [] ≡ last_digits 2 n
unfolding last_digits
two_of eight n is = rw is refl

-- an additional digit of a number with fewer is a zero
front_zero : (m n : ℕ) → n < 16 ^ m → last_digits (suc m) n ≡ 48 ∷ last_digits m n
unfolding last_digits
front_zero zero n small = let e : n % 16 ≡ 0 = omega arith in rw e refl
front_zero (suc m) n small = ap (λ (s : List ℕ). s ++ (digit_glyph true (n % 16) ∷ [])) (front_zero m (n / 16) (omega (arith, pow-suc 16 m)))

-- and so are several
pub padded : (w m n : ℕ) → m ≤ w → n < 16 ^ m → replicate (w - m) 48 ++ last_digits m n ≡ last_digits w n
padded zero zero n le small = refl
padded zero (suc m) n le small = absurd (omega arith)
padded (suc w) m n le small = elim (cases_lt w m) [
  | inl lt ↦ let e : m ≡ suc w = omega arith in let z : suc w - m ≡ 0 = omega arith in rw z (ap (λ (k : ℕ). last_digits k n) e)
  | inr ge ↦
      let z : suc w - m ≡ suc (w - m) = omega arith in
      let fits : n < 16 ^ w = omega (arith, pow-le-pow_right {n = 16} (omega arith) ge) in
      rw z (ap (λ (s : List ℕ). 48 ∷ s) (padded w m n ge small) ∙ sym (front_zero w n fits))
]

-- ---- all digits

-- all digits of a number, before others
onto : (i j n : ℕ) (acc : List ℕ) → j < i → (0 < j → 16 ^ j ≤ n) → n < 16 ^ suc j → digits_onto i 16 true n acc ≡ last_digits (suc j) n ++ acc
unfolding last_digits
onto zero j n acc lt lo hi = absurd (omega arith)
onto (suc i) zero n acc lt lo hi = let e : eqb (n / 16) 0 ≡ true = eq-eqb (n / 16) 0 (omega arith) in rw e refl
onto (suc i) (suc j) n acc lt lo hi =
    let low : 16 ^ suc j ≤ n = lo (omega arith) in
    let one : 0 < 16 ^ j = pow_some j in
    let e : eqb (n / 16) 0 ≡ false = ne_eqb (n / 16) 0 (λ h. omega (arith, pow-suc 16 j)) in
    rw e (onto i j (n / 16) (digit_glyph true (n % 16) ∷ acc) (omega arith) (λ h. omega (arith, pow-suc 16 j)) (omega (arith, pow-suc 16 (suc j)))
    ∙ sym (append_assoc (last_digits (suc j) (n / 16)) (digit_glyph true (n % 16) ∷ []) acc))
  where
    pow_some : (k : ℕ) → 0 < 16 ^ k
    pow_some zero = omega arith
    pow_some (suc k) = omega (arith, pow_some k, pow-suc 16 k)

-- all digits of a number are its last ones, of that count
hex_is : (j n : ℕ) → j < 64 → (0 < j → 16 ^ j ≤ n) → n < 16 ^ suc j → hex_upper n ≡ last_digits (suc j) n
unfolding digits
hex_is j n lt lo hi = onto 64 j n [] lt lo hi ∙ append-nil (last_digits (suc j) n)

-- and there are that many
pub hex_count : (j n : ℕ) → j < 64 → (0 < j → 16 ^ j ≤ n) → n < 16 ^ suc j → suc j ≡ length (hex_upper n)
hex_count j n lt lo hi = sym (ap length (hex_is j n lt lo hi) ∙ last_length (suc j) n)

-- how many digits a number has
pub record Digits (most n : ℕ) : Type 0 where
  pub more : ℕ
  pub few : more ≤ most
  pub low : 0 < more → 16 ^ more ≤ n
  pub high : n < 16 ^ suc more

digits_below : (most n : ℕ) → n < 16 ^ suc most → Digits most n
digits_below zero n small = record { more = 0; few = omega arith; low = λ z. omega arith; high = small }
digits_below (suc most) n small = elim (cases_lt n (16 ^ suc most)) [
  | inl lt ↦ let d = digits_below most n lt in record { more = d.more; few = omega (arith, d.few); low = d.low; high = d.high }
  | inr ge ↦ record { more = suc most; few = omega arith; low = λ z. ge; high = small }
]

-- a four-byte number has at most eight
has_digits : (n : ℕ) → n < 2 ^ 32 → Digits 7 n
has_digits n small = digits_below 7 n small

-- ---- what is written of a number

-- the digits of a number, with leading zeros up to a width
pub shown_digits : (least total n : ℕ) → n < 2 ^ 32 → (length (hex_upper n) < least → total ≡ least)
    → (least ≤ length (hex_upper n) → total ≡ length (hex_upper n)) → last_digits total n ≡ at_least least (hex_upper n)
unfolding at_least
shown_digits least total n small short long =
    let d = has_digits n small in
    let is = hex_is d.more n (omega (arith, d.few)) d.low d.high in
    let count : suc d.more ≡ length (hex_upper n) = hex_count d.more n (omega (arith, d.few)) d.low d.high in
    elim (cases_lt (length (hex_upper n)) least) [
      | inl lt ↦ rw (short lt, ← count, is) (sym (padded least (suc d.more) n (omega (arith, count, lt)) d.high))
      | inr ge ↦ let none : least - length (hex_upper n) ≡ 0 = omega arith in rw (long ge, none, ← count) (sym is)
    ]

-- a number with enough digits is not padded
not_padded : (least : ℕ) (ds : List ℕ) → least ≤ length ds → at_least least ds ≡ ds
unfolding at_least
not_padded least ds le = let none : least - length ds ≡ 0 = omega arith in rw none refl

-- the last digits are those of a quotient, then fewer
pub last_split : (w j n : ℕ) → j ≤ w → last_digits w n ≡ last_digits (w - j) (n / 16 ^ j) ++ last_digits j n
unfolding last_digits
last_split w zero n le = let a : w - 0 ≡ w = omega arith in let b : n / 1 ≡ n = omega arith in rw (a, b) (sym (append-nil (last_digits w n)))
last_split zero (suc j) n le = absurd (omega arith)
last_split (suc w) (suc j) n le =
    let a : suc w - suc j ≡ w - j = omega arith in
    let b : n / 16 ^ suc j ≡ n / 16 / 16 ^ j = ap (λ (k : ℕ). n / k) (pow-succ' 16 j) ∙ sym (div-div-eq-div-mul n 16 (16 ^ j)) in
    rw (a, b) (ap (λ (s : List ℕ). s ++ (digit_glyph true (n % 16) ∷ [])) (last_split w j (n / 16) (omega arith))
    ∙ append_assoc (last_digits (w - j) (n / 16 / 16 ^ j)) (last_digits j (n / 16)) (digit_glyph true (n % 16) ∷ []))

-- a number before the last digits doesn't change them
pub last_add : (k a b : ℕ) → last_digits k (a * 16 ^ k + b) ≡ last_digits k b
unfolding last_digits
last_add zero a b = refl
last_add (suc k) a b =
    let e : a * 16 ^ suc k ≡ (a * 16 ^ k) * 16 = ap (λ (n : ℕ). a * n) (pow-suc 16 k) ∙ sym (mul_assoc a (16 ^ k) 16) in
    let front : (a * 16 ^ suc k + b) / 16 ≡ a * 16 ^ k + b / 16 = omega (arith, e) in
    let end : (a * 16 ^ suc k + b) % 16 ≡ b % 16 = omega (arith, e) in
    rw (front, end, last_add k a (b / 16)) refl

-- the last eight are those of the last four bytes
last_low : (n : ℕ) → last_digits 8 (n % 4294967296) ≡ last_digits 8 n
last_low n = sym (last_add 8 (n / 4294967296) (n % 4294967296)) ∙ ap (last_digits 8) (omega arith)

-- the digits of a number that needs more than four bytes
pub wide_digits : (n : ℕ) → 2 ^ 32 ≤ n → n < 2 ^ 64 → at_least 1 (hex_upper (n / 4294967296)) ++ last_digits 8 (n % 4294967296) ≡ at_least 6 (hex_upper n)
wide_digits n low high =
    let hi = n / 4294967296 in
    let d = has_digits hi (omega arith) in
    let k = d.more in
    let first = hex_is k hi (omega (arith, d.few)) d.low d.high in
    let one : 16 ^ k ≤ hi = elim (cases_lt 0 k) [ inl h ↦ d.low h | inr z ↦ let e : k ≡ 0 = omega arith in rw e (omega arith) ] in
    let below : 16 ^ (k + 8) ≤ n = omega (arith, pow-add 16 k 8) in
    let above : n < 16 ^ suc (k + 8) = let e : suc (k + 8) ≡ suc k + 8 = omega arith in omega (arith, ap (λ (j : ℕ). 16 ^ j) e, pow-add 16 (suc k) 8, d.high) in
    let all = hex_is (k + 8) n (omega (arith, d.few)) (λ z. below) above in
    let rest : suc (k + 8) - 8 ≡ suc k = omega arith in
    let c1 = hex_count k hi (omega (arith, d.few)) d.low d.high in
    let c2 = hex_count (k + 8) n (omega (arith, d.few)) (λ z. below) above in
    rw (not_padded 1 (hex_upper hi) (omega (arith, c1)), not_padded 6 (hex_upper n) (omega (arith, c2)), first, all, last_low n, ← rest)
    (sym (last_split (suc (k + 8)) 8 n (omega arith)))

-- ---- parsing digits

-- one more leading digit of a text
pub front_more : (s : List ℕ) (n number value : ℕ) → n < length s → value < 16 → digit_glyph true value ≡ get_or s n 0
    → (n ≤ 8 → take n s ≡ last_digits n number) → (n ≤ 8 → number < 16 ^ n) → n + 1 ≤ 8
    → (take (n + 1) s ≡ last_digits (n + 1) ((number * 16 % 4294967296 + value) % 4294967296))
    × ((number * 16 % 4294967296 + value) % 4294967296 < 16 ^ (n + 1))
unfolding last_digits
front_more s n number value lt small is before fits few =
    let seven : n ≤ 7 = omega arith in
    let room : 16 ^ n ≤ 16 ^ 7 = pow-le-pow_right {n = 16} (omega arith) seven in
    let within : number < 16 ^ n = fits (omega arith) in
    let all : (number * 16 % 4294967296 + value) % 4294967296 ≡ number * 16 + value = omega arith in
    let next : n + 1 ≡ suc n = omega arith in
    let front : (number * 16 + value) / 16 ≡ number = omega arith in
    let end : (number * 16 + value) % 16 ≡ value = omega arith in
    let text : take (n + 1) s ≡ last_digits (suc n) (number * 16 + value) =
    rw (take_more s n 0 lt, before (omega arith), front, end, is) refl in (
      text ∙ ap (λ (k : ℕ). last_digits k (number * 16 + value)) (sym next) ∙ ap (last_digits (n + 1)) (sym all),
      omega (arith, all, within, pow-suc 16 n, ap (λ (k : ℕ). 16 ^ k) next),
    )

-- a number has at least one digit
pub one_digit : (n : ℕ) → n < 2 ^ 32 → at_least 1 (hex_upper n) ≡ hex_upper n
one_digit n small = let d = has_digits n small in not_padded 1 (hex_upper n) (omega (arith, hex_count d.more n (omega (arith, d.few)) d.low d.high))

-- the two digits of a byte are ASCII
pub two_ascii : (b : ℕ) → b < 256 → IsAscii (digit_glyph true (b / 16) ∷ digit_glyph true (b % 16) ∷ [])
two_ascii b small = IsAscii-cons (digit_glyph true (b / 16)) (digit_glyph true (b % 16) ∷ []) (glyph_ascii (b / 16) (omega arith))
    (IsAscii-cons (digit_glyph true (b % 16)) [] (glyph_ascii (b % 16) (omega arith)) IsAscii-nil)

-- `0x` and six digits are ASCII
pub prefixed_ascii : (n : ℕ) → IsAscii (48 ∷ 120 ∷ last_digits 6 n)
prefixed_ascii n = IsAscii-cons 48 (120 ∷ last_digits 6 n) (omega arith) (IsAscii-cons 120 (last_digits 6 n) (omega arith) (last_ascii 6 n))

-- with `Tag: ` before them too
pub tagged_ascii : (n : ℕ) → IsAscii (84 ∷ 97 ∷ 103 ∷ 58 ∷ 32 ∷ 48 ∷ 120 ∷ last_digits 6 n)
tagged_ascii n = IsAscii-append (84 ∷ 97 ∷ 103 ∷ 58 ∷ 32 ∷ []) (48 ∷ 120 ∷ last_digits 6 n)
    (IsAscii-cons 84 (97 ∷ 103 ∷ 58 ∷ 32 ∷ []) (omega arith) (IsAscii-cons 97 (103 ∷ 58 ∷ 32 ∷ []) (omega arith)
    (IsAscii-cons 103 (58 ∷ 32 ∷ []) (omega arith) (IsAscii-cons 58 (32 ∷ []) (omega arith) (IsAscii-cons 32 [] (omega arith) IsAscii-nil)))))
    (prefixed_ascii n)
