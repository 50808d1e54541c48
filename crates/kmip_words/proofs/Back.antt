-- Words that stand for their numbers, and the masks of words.
use Rattle.std.proofs.Common.{◌≡◌, ◌∙◌, ◌+◌, ◌<◌, ◌≤◌, ◌^◌, ◌&&◌, ◌==◌, ℕ, suc, Bool, true, false, not, cond, List}
use Rattle.std.proofs.Common.{[], ◌∷◌, length, Bor, Option, Some, None, IfSome, IfNone, option_map, option_and_then, bit_or, ap, sym, refl, subst, arith}
use Rattle.std.specs.Prelude.{if◌then◌else◌, nat_lt}
use Rattle.std.specs.List.{slice_split, onto_first, position_or_len, before_first, after_first}
use Rattle.std.proofs.lemmas.List.Splits.{slice_split_first}
use Rattle.std.proofs.lemmas.Bool.{eqb-true, ltb-true, lt-ltb, le-ltb}
use Rattle.kmip_words.specs.declared.table.TheConstants.{WORDS}
use Rattle.kmip_words.specs.Rows.{word_named}
use Rattle.kmip_words.specs.Words.{number_of, is_word, is_number, word_back, word_of, tag_below, tag_of_word, tag_word, bits_with, pieces, mask_of}

-- ---- the number of a word

taken : {A : Type 0} (b : Bool) (v w : A) → (if b then Some v else None) ≡ Some w → (b ≡ true) × (v ≡ w)
taken true v w e = (refl, cc)
taken false v w e = absurd cc

pub tag_is : (word : List ℕ) (o : Option ℕ) → number_of 0 word ≡ o → tag_of_word word ≡ option_and_then tag_below o
unfolding tag_of_word
tag_is word o e = ap (option_and_then tag_below) e

pub below_is : (r : Option ℕ) (n : ℕ) → IfSome r (λ t. t ≡ n) → IfNone r (2 ^ 24 ≤ n) → IfSome r (λ t. t < 2 ^ 24) → r ≡ tag_below n
below_is None n some none small = rw (le-ltb n (2 ^ 24) none) refl
below_is (Some t) n some none small = rw (some, lt-ltb n (2 ^ 24) (subst (λ k. k < 2 ^ 24) some small)) refl

below_small : (o : Option ℕ) (n : ℕ) → option_and_then tag_below o ≡ Some n → n < 2 ^ 24
below_small None n h = absurd cc
below_small (Some m) n h = let t = taken (nat_lt m (2 ^ 24)) m n h in subst (λ k. k < 2 ^ 24) t.1 (ltb-true m (2 ^ 24) t.0)

-- the tag of a word is one
pub word_small : (word : List ℕ) (n : ℕ) → tag_of_word word ≡ Some n → n < 2 ^ 24
unfolding tag_of_word
word_small word n h = below_small (number_of 0 word) n h

-- ---- the word of a number

pub word_is : (list number : ℕ) (o : Option (List ℕ)) → word_named WORDS.now list number ≡ o → word_of list number ≡ word_back list number o
unfolding word_of
word_is list number o e = ap (word_back list number) e

pub stands : (list number : ℕ) (word : List ℕ) (b : Bool) → b ≡ (is_word word && is_number number (number_of list word))
    → word_back list number (Some word) ≡ (if b then Some word else None)
stands list number word b e = rw e refl

both_are : (a b : Bool) → (a && b) ≡ true → (a ≡ true) × (b ≡ true)
both_are true b h = (refl, h)
both_are false b h = absurd cc

number_is : (number : ℕ) (o : Option ℕ) → is_number number o ≡ true → o ≡ Some number
number_is number None h = absurd cc
number_is number (Some n) h = ap (λ k. Some k) (eqb-true n number h)

back_is : (list number : ℕ) (o : Option (List ℕ)) (w : List ℕ) → word_back list number o ≡ Some w
    → (is_word w ≡ true) × (number_of list w ≡ Some number)
back_is list number None w e = absurd cc
back_is list number (Some v) w e =
    let t = taken (is_word v && is_number number (number_of list v)) v w e in
    let p = both_are (is_word v) (is_number number (number_of list v)) t.0 in
    subst (λ u. (is_word u ≡ true) × (number_of list u ≡ Some number)) t.1 (p.0, number_is number (number_of list v) p.1)

-- what a word of the table is
pub is_back : (list number : ℕ) (w : List ℕ) → word_of list number ≡ Some w → (is_word w ≡ true) × (number_of list w ≡ Some number)
unfolding word_of
is_back list number w e = back_is list number (word_named WORDS.now list number) w e

pub plain_back : (list number : ℕ) (r : Option (Bor (List ℕ))) → option_map (λ s. s.now) r ≡ word_of list number
    → IfSome r (λ w. is_word w.now ≡ true)
plain_back list number None e = tt
plain_back list number (Some w) e = (is_back list number w.now (sym e)).0

pub stands_back : (list number : ℕ) (r : Option (Bor (List ℕ))) → option_map (λ s. s.now) r ≡ word_of list number
    → IfSome r (λ w. number_of list w.now ≡ Some number)
stands_back list number None e = tt
stands_back list number (Some w) e = (is_back list number w.now (sym e)).1

pub tag_word_is : (tag : ℕ) → word_of 0 tag ≡ tag_word tag
unfolding tag_word
tag_word_is tag = refl

pub tag_back : (tag : ℕ) → tag < 2 ^ 24 → (r : Option (Bor (List ℕ))) → option_map (λ s. s.now) r ≡ word_of 0 tag
    → IfSome r (λ w. tag_of_word w.now ≡ Some tag)
tag_back tag small None e = tt
tag_back tag small (Some w) e =
    tag_is w.now (Some tag) (is_back 0 tag w.now (sym e)).1 ∙ rw (lt-ltb tag (2 ^ 24) small) refl

-- ---- masks

abbrev is_separator : ℕ → ℕ → Bool
is_separator separator b = b == separator

tail_is : (b : Bool) (n m : ℕ) → cond (not b) (1 + n) 0 ≡ suc m → n ≡ m
tail_is true n m is = absurd (omega (arith, is))
tail_is false n m is = omega (arith, is)

one_piece : (x : ℕ) (b : Bool) (xs : List ℕ) (ls : List (List ℕ)) (n : ℕ) → cond (not b) (1 + n) 0 ≡ suc (length xs) → ls ≡ xs ∷ []
    → cond b ([] ∷ ls) (onto_first x ls) ≡ (x ∷ xs) ∷ []
one_piece x true xs ls n is same = absurd (omega (arith, is))
one_piece x false xs ls n is same = rw same refl

-- a text without separators is one piece
last_piece : (p : ℕ → Bool) (s : List ℕ) → position_or_len p s ≡ length s → slice_split p s ≡ s ∷ []
last_piece p [] is = refl
last_piece p (c ∷ s) is = one_piece c (p c) s (slice_split p s) (position_or_len p s) is
    (last_piece p s (tail_is (p c) (position_or_len p s) (length s) is))

-- the first word of a mask, and the others
pub first_bits : (list mask separator : ℕ) (rest word more : List ℕ) → position_or_len (λ b. b == separator) rest < length rest
    → word ≡ before_first (λ b. b == separator) rest → more ≡ after_first (λ b. b == separator) rest
    → bits_with list mask (pieces separator rest)
    ≡ option_and_then (λ bit. bits_with list (bit_or mask bit) (pieces separator more)) (number_of list word)
first_bits list mask separator rest word more lt w m =
    ap (bits_with list mask) (slice_split_first (is_separator separator) rest 0 lt
    ∙ ap (λ (x : List ℕ). x ∷ slice_split (is_separator separator) (after_first (is_separator separator) rest)) (sym w)
    ∙ ap (λ (x : List ℕ). word ∷ slice_split (is_separator separator) x) (sym m))

pub last_bits : (list mask separator : ℕ) (rest : List ℕ) → position_or_len (λ b. b == separator) rest ≡ length rest
    → bits_with list mask (pieces separator rest) ≡ option_and_then (λ bit. Some (bit_or mask bit)) (number_of list rest)
last_bits list mask separator rest is = ap (bits_with list mask) (last_piece (is_separator separator) rest is)

pub mask_is : (list separator : ℕ) (text : List ℕ) → mask_of list separator text ≡ bits_with list 0 (pieces separator text)
unfolding mask_of
mask_is list separator text = refl
