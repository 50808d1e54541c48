-- Prefixes of tags as numbers.
use Rattle.std.proofs.Common.{◌≡◌, ◌≢◌, ℕ, zero, suc, ◌+◌, ◌-◌, ◌*◌, ◌/◌, ◌%◌, ◌^◌, ◌<◌, ◌≤◌, List, [], ◌∷◌, ◌++◌, length, drop, refl, sym, ap, ◌∙◌, arith}
use Rattle.std.proofs.Common.{true, take}
use Rattle.std.specs.Fmt.{digit_glyph}
use Rattle.std.proofs.{lemmas.List.take_at, lemmas.List.drop_at, Math.Nat.pow-suc, Math.Nat.le_refl}
use Rattle.std.proofs.lemmas.Nat.{pow-add, shr_below, mul-le, div-mul-add}
use Rattle.kmip_ttlv_types.specs.Digits.{six_digits}
use Rattle.kmip_ttlv_util.specs.{LastDigits.last_digits, Outlines.stripped}
use Rattle.kmip_ttlv_util.proofs.HexDigits.{glyph_cases, last_length, last_drop, last_split, last_add}
use Rattle.kmip_ttlv_util.proofs.Texts.{stripped_some, stripped_none}

-- a list of six numbers
six_same : {a b c d e f g h i j k l : ℕ} → a ≡ g → b ≡ h → c ≡ i → d ≡ j → e ≡ k → f ≡ l → a ∷ b ∷ c ∷ d ∷ e ∷ f ∷ [] ≡ g ∷ h ∷ i ∷ j ∷ k ∷ l ∷ []
six_same p1 p2 p3 p4 p5 p6 = cc

-- a tag's digits are its last six
pub six_last : (n : ℕ) → six_digits n ≡ last_digits 6 n
unfolding six_digits last_digits
six_last n = six_same (ap (digit_glyph true) (omega arith)) (ap (digit_glyph true) (omega arith)) (ap (digit_glyph true) (omega arith))
    (ap (digit_glyph true) (omega arith)) (ap (digit_glyph true) (omega arith)) (ap (digit_glyph true) (omega arith))

-- the digits after those that are omitted
pub behind : (r tag n : ℕ) (text : List ℕ) → r ≤ 6 → n ≡ tag → drop r (six_digits tag) ≡ text → last_digits (6 - r) n ≡ text
behind r tag n text few is h =
    let back : 6 - (6 - r) ≡ r = omega arith in
    ap (last_digits (6 - r)) is ∙ sym (last_drop 6 (6 - r) tag (omega arith)) ∙ ap (λ (k : ℕ). drop k (last_digits 6 tag)) back
    ∙ ap (drop r) (sym (six_last tag)) ∙ h

-- equal digits, equal values
glyph_same : (a b : ℕ) → a < 16 → b < 16 → digit_glyph true a ≡ digit_glyph true b → a ≡ b
glyph_same a b ha hb =
    glyph_cases (λ c. c ≡ digit_glyph true b → a ≡ b) a (λ la. glyph_cases (λ c. 48 + a ≡ c → a ≡ b) b (λ lb e. omega arith) (λ lb e. omega arith))
    (λ la. glyph_cases (λ c. 55 + a ≡ c → a ≡ b) b (λ lb e. omega arith) (λ lb e. omega arith))

-- lists whose beginnings have the same length
front_same : (xs ys ends more : List ℕ) → length xs ≡ length ys → xs ++ ends ≡ ys ++ more → (xs ≡ ys) × (ends ≡ more)
front_same xs ys ends more n e = (
  sym (take_at xs ends (length xs) refl) ∙ ap (take (length xs)) e ∙ take_at ys more (length xs) (sym n),
  sym (drop_at xs ends (length xs) refl) ∙ ap (drop (length xs)) e ∙ drop_at ys more (length xs) (sym n),
)

-- equal digits, equal numbers
pub last_one : (k a b : ℕ) → a < 16 ^ k → b < 16 ^ k → last_digits k a ≡ last_digits k b → a ≡ b
unfolding last_digits
last_one zero a b ha hb e = omega arith
last_one (suc k) a b ha hb e =
    let parts = front_same (last_digits k (a / 16)) (last_digits k (b / 16)) (digit_glyph true (a % 16) ∷ []) (digit_glyph true (b % 16) ∷ [])
    (last_length k (a / 16) ∙ sym (last_length k (b / 16))) e in
    let last : (digit_glyph true (a % 16) ∷ []) ≡ (digit_glyph true (b % 16) ∷ []) = parts.1 in
    let glyph : digit_glyph true (a % 16) ≡ digit_glyph true (b % 16) = cc in
    let ones : a % 16 ≡ b % 16 = glyph_same (a % 16) (b % 16) (omega arith) (omega arith) glyph in
    let more : a / 16 ≡ b / 16 = last_one k (a / 16) (b / 16) (omega (arith, pow-suc 16 k)) (omega (arith, pow-suc 16 k)) parts.0 in
    omega arith

-- four bits a digit
four_bits : (k : ℕ) → 2 ^ (4 * k) ≡ 16 ^ k
four_bits zero = refl
four_bits (suc k) = let e : 4 * suc k ≡ 4 * k + 4 = omega arith in ap (λ (n : ℕ). 2 ^ n) e ∙ pow-add 2 (4 * k) 4 ∙ ap (λ (n : ℕ). n * 16) (four_bits k)
    ∙ sym (pow-suc 16 k)

module _ (text : List ℕ) (count number shift tag : ℕ) (few : count ≤ 6) (is : text ≡ last_digits count number) (small : number < 16 ^ count)
    (bits : shift + 4 * count ≡ 24) (fits : tag < 2 ^ 24) where
  -- the first digits of a tag are those of a quotient
  first_digits : six_digits tag ≡ last_digits count (tag / 2 ^ shift) ++ drop count (six_digits tag)
  first_digits =
      let others : 6 - (6 - count) ≡ count = omega arith in
      let shifts : shift ≡ 4 * (6 - count) = omega arith in
      let power : 16 ^ (6 - count) ≡ 2 ^ shift = sym (ap (λ (n : ℕ). 2 ^ n) shifts ∙ four_bits (6 - count)) in
      let end : last_digits (6 - count) tag ≡ drop count (six_digits tag) = sym (last_drop 6 (6 - count) tag (omega arith))
      ∙ ap (λ (n : ℕ). drop n (last_digits 6 tag)) others ∙ ap (drop count) (sym (six_last tag)) in
      rw (← end, ← power, six_last tag) (last_split 6 (6 - count) tag (omega arith) ∙ ap (λ (n : ℕ). last_digits n (tag / 16 ^ (6 - count))
      ++ last_digits (6 - count) tag) others)

  -- if the quotient is the prefix's number, its digits are omitted
  pub left_prefix : tag / 2 ^ shift ≡ number → drop count (six_digits tag) ≡ stripped text (six_digits tag)
  left_prefix e = stripped_some text (six_digits tag) count (sym (ap length is ∙ last_length count number))
      (first_digits ∙ ap (λ (n : ℕ). last_digits count n ++ drop count (six_digits tag)) e ∙ ap (λ (s : List ℕ). s ++ drop count (six_digits tag)) (sym is))

  -- if it isn't, nothing is omitted
  pub left_nothing : tag / 2 ^ shift ≢ number → six_digits tag ≡ stripped text (six_digits tag)
  left_nothing ne = stripped_none text (six_digits tag) (λ rest e.
      let sizes : length (last_digits count (tag / 2 ^ shift)) ≡ length text = last_length count (tag / 2 ^ shift)
      ∙ sym (ap length is ∙ last_length count number) in
      let same = (front_same (last_digits count (tag / 2 ^ shift)) text (drop count (six_digits tag)) rest sizes (sym first_digits ∙ e)).0 in
      ne (last_one count (tag / 2 ^ shift) number below small (same ∙ is)))
    where
      below : tag / 2 ^ shift < 16 ^ count
      below =
          let sum : 4 * count + shift ≡ 24 = omega arith in
          let quotient = shr_below tag (4 * count) shift (rw sum fits) in
          omega (arith, quotient, four_bits count)

-- the tag made of a prefix's digits and others
module _ (text : List ℕ) (count number others low : ℕ) (six : count + others ≡ 6) (is : text ≡ last_digits count number) (small : number < 16 ^ count)
    (few : low < 16 ^ others) where
  -- it has three bytes
  pub joined_fits : number * 2 ^ (4 * others) + low < 2 ^ 24
  joined_fits =
      let bound : suc number * 16 ^ others ≤ 16 ^ count * 16 ^ others = mul-le (suc number) (16 ^ others) (16 ^ count) (16 ^ others) small
      (le_refl (16 ^ others)) in
      let all : 16 ^ count * 16 ^ others ≡ 16 ^ 6 = sym (pow-add 16 count others) ∙ ap (λ (n : ℕ). 16 ^ n) six in
      let bits : number * 2 ^ (4 * others) ≡ number * 16 ^ others = ap (λ (n : ℕ). number * n) (four_bits others) in
      omega (arith, bound, all, bits, few)

  -- and has these digits
  pub joined_digits : text ++ last_digits others low ≡ six_digits (number * 2 ^ (4 * others) + low)
  joined_digits =
      let t = number * 16 ^ others + low in
      let left : 6 - others ≡ count = omega arith in
      rw (is, ← last_add others number low, four_bits others, six_last t)
      (ap (λ (n : ℕ). last_digits count n ++ last_digits others t) (sym (div-mul-add number (16 ^ others) low few))
      ∙ ap (λ (k : ℕ). last_digits k (t / 16 ^ others) ++ last_digits others t) (sym left) ∙ sym (last_split 6 others t (omega arith)))
