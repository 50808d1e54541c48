-- Words need no escape, begin with no digit, and are read back as what they stand for.
use Rattle.std.proofs.Common.{◌≡◌, ◌∙◌, inl, inr, ◌⊎◌, ℕ, ◌+◌, ◌-◌, ◌/◌, ◌%◌, ◌<◌, ◌≤◌, ◌^◌, ◌&&◌, ◌||◌, ◌==◌, Bool, true, false, List, [], ◌∷◌, ◌++◌, length}
use Rattle.std.proofs.Common.{take, drop, if◌then◌else◌}
use Rattle.std.proofs.Common.{Option, Some, None, refl, sym, ap, ap₂, subst, arith, take_all}
use Rattle.std.proofs.Math.Bool.{and-false}
use Rattle.std.specs.{List.list_all, Prelude.slice_index, Prelude.nat_le, Prelude.option_and_then}
use Rattle.std.proofs.lemmas.Bool.{and_parts, or_cases, leb-true, eqb-true, ne_eqb}
use Rattle.json.specs.Print.{escape_byte, escape}
use Rattle.json.proofs.Printed.Strings.{escape_byte_plain}
use Rattle.kmip_words.specs.Words.{is_letter, is_word_byte, is_word, is_number, word_of, tag_word, tag_of_word, number_of, mask_of}
use Rattle.kmip_words.specs.Dates.{date_text, date_of, date_at, text_back, written_at, digit_at, epoch}
use Rattle.kmip_words.specs.Calendar.{year_of}
use Rattle.kmip_words.proofs.Back.{is_back, tag_back, tag_word_is}
use Rattle.kmip_ttlv_json.specs.Spellings.{spelled}
use Rattle.kmip_ttlv_json.specs.Masks.{has_bit, behind, words_behind, mask_back, mask_text}
use Rattle.kmip_ttlv_json.specs.declared.masks.TheConstants.{BITS}
use Rattle.kmip_ttlv_json.specs.JsonTrees.{behind_0x}
use Rattle.kmip_ttlv_json.proofs.Escapes.{AreLow, spelled_low}

-- ---- no escapes

letter_bounds : (c : ℕ) → is_letter c ≡ true → (65 ≤ c) × (c < 123)
letter_bounds c h = elim (or_cases ((nat_le 65 c && nat_le c 90) || (nat_le 97 c && nat_le c 122)) (c == 95) h) [
  | inl k ↦ elim (or_cases (nat_le 65 c && nat_le c 90) (nat_le 97 c && nat_le c 122) k) [
    | inl m ↦ let p = and_parts (nat_le 65 c) (nat_le c 90) m in (leb-true 65 c p.0, omega (arith, leb-true c 90 p.1))
    | inr m ↦ let p = and_parts (nat_le 97 c) (nat_le c 122) m in (omega (arith, leb-true 97 c p.0), omega (arith, leb-true c 122 p.1))
  ]
  | inr k ↦ (omega (arith, eqb-true c 95 k), omega (arith, eqb-true c 95 k))
]

byte_bounds : (c : ℕ) → is_word_byte c ≡ true → (48 ≤ c) × (c < 123)
byte_bounds c h = elim (or_cases (is_letter c) (nat_le 48 c && nat_le c 57) h) [
  | inl k ↦ let p = letter_bounds c k in (omega (arith, p.0), p.1)
  | inr k ↦ let p = and_parts (nat_le 48 c) (nat_le c 57) k in (leb-true 48 c p.0, omega (arith, leb-true c 57 p.1))
]

byte_plain : (c : ℕ) → is_word_byte c ≡ true → escape_byte c ≡ c ∷ []
byte_plain c h =
    let p = byte_bounds c h in
    escape_byte_plain c (λ e. omega (arith, e, p.0))
    (λ e. let k : false ≡ true = subst (λ b. is_word_byte b ≡ true) e h in absurd cc) (omega (arith, p.0))

bytes_low : (w : List ℕ) → list_all is_word_byte w ≡ true → AreLow w
bytes_low [] h = tt
bytes_low (c ∷ w) h =
    let p = and_parts (is_word_byte c) (list_all is_word_byte w) h in
    let small : c < 123 = (byte_bounds c p.0).1 in
    (omega (arith, small), bytes_low w p.1)

bytes_plain : (w : List ℕ) → list_all is_word_byte w ≡ true → escape w ≡ w
bytes_plain [] h = refl
bytes_plain (c ∷ w) h =
    let p = and_parts (is_word_byte c) (list_all is_word_byte w) h in
    ap (λ (s : List ℕ). s ++ escape w) (byte_plain c p.0) ∙ ap (λ (s : List ℕ). c ∷ s) (bytes_plain w p.1)

-- a word in JSON
pub spelled_word : (w : List ℕ) → is_word w ≡ true → spelled w ≡ 34 ∷ (w ++ 34 ∷ [])
spelled_word w h =
    let all = (and_parts (is_letter (slice_index w 0)) (list_all is_word_byte w) h).1 in
    spelled_low w (bytes_low w all) ∙ ap (λ (s : List ℕ). 34 ∷ (s ++ 34 ∷ [])) (bytes_plain w all)

-- ---- no digits

-- a text begins with a letter
abbrev pub Begins : List ℕ → Type 0
Begins w = is_letter (slice_index w 0) ≡ true

letter_not : (a : ℕ) → is_letter a ≡ true → (a == 48) ≡ false
letter_not a h = ne_eqb a 48 (λ e. omega (arith, e, (letter_bounds a h).0))

pub no_digits : (w : List ℕ) → Begins w → behind_0x w ≡ None
no_digits [] h = refl
no_digits (a ∷ []) h = refl
no_digits (a ∷ b ∷ w) h = ap (λ (x : Bool). if x && (b == 120) then Some w else None) (letter_not a h)

pub word_begins : (w : List ℕ) → is_word w ≡ true → Begins w
word_begins w h = (and_parts (is_letter (slice_index w 0)) (list_all is_word_byte w) h).0

-- ---- words of tags and values

pub tag_is_word : (tag : ℕ) (w : List ℕ) → tag_word tag ≡ Some w → is_word w ≡ true
unfolding tag_word
tag_is_word tag w e = (is_back 0 tag w e).0

pub tag_reads : (tag : ℕ) (w : List ℕ) → tag < 2 ^ 24 → tag_word tag ≡ Some w → tag_of_word w ≡ Some tag
tag_reads tag w small e = tag_back tag small (Some (record { ref_ptr = (0, 0); now = w })) (sym e ∙ sym (tag_word_is tag))

pub value_reads : (tag value : ℕ) (w : List ℕ) → word_of tag value ≡ Some w → (is_word w ≡ true) × (number_of tag w ≡ Some value)
value_reads tag value w e = is_back tag value w e

taken : {A : Type 0} (b : Bool) (v w : A) → (if b then Some v else None) ≡ Some w → (b ≡ true) × (v ≡ w)
taken true v w e = (refl, cc)
taken false v w e = absurd cc

number_is : (number : ℕ) (o : Option ℕ) → is_number number o ≡ true → o ≡ Some number
number_is number None h = absurd cc
number_is number (Some n) h = ap (λ k. Some k) (eqb-true n number h)

-- ---- words of masks

behind_begins : (separator : ℕ) (text word : List ℕ) → (text ≡ []) ⊎ Begins text → Begins word → Begins (behind separator text word)
behind_begins separator [] word t w = w
behind_begins separator (c ∷ cs) word (inl e) w = absurd cc
behind_begins separator (c ∷ cs) word (inr h) w = h

-- what is the first of some words
abbrev StartsWell : List ℕ → Type 0
StartsWell text = (text ≡ []) ⊎ Begins text

words_begin : (tag separator mask : ℕ) (bits text all : List ℕ) → StartsWell text → words_behind tag separator mask text bits ≡ Some all → StartsWell all
unfolding words_behind
words_begin tag separator mask [] text all t e = let same : text ≡ all = cc in subst StartsWell same t
words_begin tag separator mask (bit ∷ bits) text all t e =
    by (has_bit mask bit) (word_of tag bit) refl (λ s k f. words_begin tag separator mask bits s all k f) e
  where
    by : (b : Bool) (o : Option (List ℕ)) → word_of tag bit ≡ o
        → ((s : List ℕ) → StartsWell s → words_behind tag separator mask s bits ≡ Some all → StartsWell all)
        → (if b then option_and_then (λ word. words_behind tag separator mask (behind separator text word) bits) o
        else words_behind tag separator mask text bits) ≡ Some all
        → StartsWell all
    by false o is more e = more text t e
    by true None is more e = absurd cc
    by true (Some word) is more e =
        more (behind separator text word) (inr (behind_begins separator text word t (word_begins word (is_back tag bit word is).0))) e

-- they are read as the mask, and have no digits
record MaskReads (tag separator mask : ℕ) (text : List ℕ) : Type 0 where
  reads : mask_of tag separator text ≡ Some mask
  words : behind_0x text ≡ None

some_words : (tag separator mask : ℕ) (o : Option (List ℕ)) (text : List ℕ) → words_behind tag separator mask [] BITS ≡ o
    → mask_back tag separator mask o ≡ Some text
    → MaskReads tag separator mask text
some_words tag separator mask None text is e = absurd cc
some_words tag separator mask (Some s) text is e =
    let t = taken (is_number mask (mask_of tag separator s)) s text e in
    subst (MaskReads tag separator mask) t.1 (record {
      reads = number_is mask (mask_of tag separator s) t.0;
      words = elim (words_begin tag separator mask BITS [] s (inl refl) is) [ inl none ↦ ap behind_0x none | inr h ↦ no_digits s h ];
    })

pub mask_reads : (tag separator mask : ℕ) (text : List ℕ) → mask_text tag separator mask ≡ Some text
    → (mask_of tag separator text ≡ Some mask) × (behind_0x text ≡ None)
unfolding mask_text
mask_reads tag separator mask text e =
    let m = some_words tag separator mask (words_behind tag separator mask [] BITS) text refl e in (m.reads, m.words)

-- ---- dates

-- a text whose second byte is a digit
second_digit : (a v : ℕ) (s : List ℕ) → behind_0x (a ∷ digit_at v 100 ∷ s) ≡ None
second_digit a v s =
    let not_x : (digit_at v 100 == 120) ≡ false = ne_eqb (digit_at v 100) 120 (λ e. omega (arith, e)) in
    rw (not_x, and-false (a == 48)) refl

date_words : (since : ℕ) → behind_0x (written_at since) ≡ None
unfolding written_at
date_words since = second_digit _ (year_of (since / 86_400)) _

back_is : (seconds : ℕ) (written text : List ℕ) → behind_0x written ≡ None → text_back seconds written ≡ Some text
    → (date_of text ≡ Some seconds) × (behind_0x text ≡ None)
back_is seconds written text none e =
    let t = taken (is_number seconds (date_at written)) written text e in
    subst (λ (s : List ℕ). (date_of s ≡ Some seconds) × (behind_0x s ≡ None)) t.1 (number_is seconds (date_at written) t.0, none)

pub date_reads : (seconds : ℕ) (text : List ℕ) → date_text seconds ≡ Some text → (date_of text ≡ Some seconds) × (behind_0x text ≡ None)
unfolding date_text
date_reads seconds text e = by (nat_le 315_537_897_600 ((seconds + epoch) % 2 ^ 64)) e
  where
    by : (b : Bool) → (if b then None else text_back seconds (written_at ((seconds + epoch) % 2 ^ 64))) ≡ Some text
        → (date_of text ≡ Some seconds) × (behind_0x text ≡ None)
    by true e = absurd cc
    by false e = back_is seconds (written_at ((seconds + epoch) % 2 ^ 64)) text (date_words ((seconds + epoch) % 2 ^ 64)) e

-- ---- a mask, by its words

pub mask_none : (tag separator mask : ℕ) → words_behind tag separator mask [] BITS ≡ None → mask_text tag separator mask ≡ None
unfolding mask_text
mask_none tag separator mask e = ap (mask_back tag separator mask) e

pub mask_some : (tag separator mask : ℕ) (text : List ℕ) (b : Bool) → words_behind tag separator mask [] BITS ≡ Some text
    → b ≡ is_number mask (mask_of tag separator text)
    → mask_text tag separator mask ≡ (if b then Some text else None)
unfolding mask_text
mask_some tag separator mask text b e is = ap (mask_back tag separator mask) e ∙ ap (λ (x : Bool). if x then Some text else None) (sym is)

-- ---- bit by bit

-- a list by its first and the others
parted : (rest : List ℕ) → 1 ≤ length rest → rest ≡ slice_index rest 0 ∷ take (length rest - 1) (drop 1 rest)
parted [] some = absurd (omega (arith, some))
parted (b ∷ bs) some =
    let n : length (b ∷ bs) - 1 ≡ length bs = omega arith in
    ap (λ (s : List ℕ). b ∷ s) (sym (ap (λ (k : ℕ). take k bs) n ∙ take_all (length bs) bs (omega arith)))

module _ (tag separator mask : ℕ) (text rest : List ℕ) where
  pub bits_end : length rest < 1 → words_behind tag separator mask text rest ≡ Some text
  unfolding words_behind
  bits_end none = by rest none
    where
      by : (r : List ℕ) → length r < 1 → words_behind tag separator mask text r ≡ Some text
      by [] none = refl
      by (b ∷ bs) none = absurd (omega (arith, none))

  module _ (some : 1 ≤ length rest) where
    abbrev pub first : ℕ
    first = slice_index rest 0

    abbrev pub others : List ℕ
    others = take (length rest - 1) (drop 1 rest)

    -- the first bit, if the mask has it or not, and it has a word or not
    one_bit : (b : Bool) (o : Option (List ℕ)) → has_bit mask first ≡ b → word_of tag first ≡ o
        → words_behind tag separator mask text rest
        ≡ (if b then option_and_then (λ word. words_behind tag separator mask (behind separator text word) others) o
        else words_behind tag separator mask text others)
    unfolding words_behind
    one_bit b o is e = ap (words_behind tag separator mask text) (parted rest some)
        ∙ ap₂ (λ (x : Bool) (y : Option (List ℕ)). if x then option_and_then (λ word. words_behind tag separator mask (behind separator text word) others) y
        else words_behind tag separator mask text others) is e

    pub bit_passed : has_bit mask first ≡ false → words_behind tag separator mask text rest ≡ words_behind tag separator mask text others
    bit_passed is = one_bit false (word_of tag first) is refl

    pub bit_with_word : (word : List ℕ) → has_bit mask first ≡ true → word_of tag first ≡ Some word
        → words_behind tag separator mask text rest ≡ words_behind tag separator mask (behind separator text word) others
    bit_with_word word is e = one_bit true (Some word) is e

    pub bit_without : has_bit mask first ≡ true → word_of tag first ≡ None → words_behind tag separator mask text rest ≡ None
    bit_without is e = one_bit true None is e
