-- Rows that are added to maps.
use Rattle.std.proofs.Common.{◌≡◌, ◌∙◌, ◌==◌, ◌&&◌, ◌<◌, ℕ, length, Bool, true, false, cond}
use Rattle.std.proofs.Common.{if◌then◌else◌, List, Bor, Option, Some, None, option_map, bytes_eq, ap, ap₂, sym, refl}
use Rattle.std.specs.Cmp.Lexicographic.{bytes_decides}
use Rattle.std.specs.HashMap.{HashMap, UpdatesBy, get_by}
use Rattle.std.proofs.lemmas.Bool.{eqb-true}
use Rattle.std.specs.List.{position_or_len, before_first, after_first}
use Rattle.kmip_ttlv_names.specs.NameTables.{is_line_feed}
use Rattle.kmip_ttlv_names.proofs.Tables.{first_line, last_line}
use Rattle.kmip_words.specs.Rows.{first_of, row_of, number_in, number_said, number_among, number_named, word_in, word_said, word_among, word_named}

-- what is found, where one more was added that was not there
chosen : {A : Type 0} (b : Bool) (found : Option A) (a : A) → (b ≡ true → found ≡ None)
    → cond b (Some a) found ≡ first_of found (if b then Some a else None)
chosen true found a none = rw (none refl) refl
chosen false None a none = refl
chosen false (Some other) a none = refl

both_are : (a b : Bool) → (a && b) ≡ true → (a ≡ true) × (b ≡ true)
both_are true b h = (refl, h)
both_are false b h = absurd cc

pub number_added : {S : Type 0} (old new : HashMap (ℕ × Bor (List ℕ)) ℕ S) (own : ℕ × Bor (List ℕ)) (number : ℕ)
    → UpdatesBy (λ x y. (x.0 == y.0) && bytes_eq x.1.now y.1.now) (λ k. (own.0 == k.0) && bytes_eq own.1.now k.1.now) old new (Some number)
    → number_in old own.0 own.1.now ≡ None
    → (list : ℕ) (word : List ℕ)
    → number_in new list word ≡ first_of (number_in old list word) (if (own.0 == list) && bytes_eq own.1.now word then Some number else None)
number_added old new own number put none list word =
    put.0 (list, record { ref_ptr = (0, 0); now = word })
    ∙ chosen ((own.0 == list) && bytes_eq own.1.now word) (number_in old list word) number (λ same.
    let parts = both_are (own.0 == list) (bytes_eq own.1.now word) same in
    ap₂ (number_in old) (sym (eqb-true own.0 list parts.0)) (sym ((bytes_decides own.1.now word).0 parts.1)) ∙ none)

pub word_added : {S : Type 0} (old new : HashMap (ℕ × ℕ) (Bor (List ℕ)) S) (own : ℕ × ℕ) (word : Bor (List ℕ))
    → UpdatesBy (λ x y. (x.0 == y.0) && (x.1 == y.1)) (λ k. (own.0 == k.0) && (own.1 == k.1)) old new (Some word)
    → word_in old own.0 own.1 ≡ None
    → (list number : ℕ)
    → word_in new list number ≡ first_of (word_in old list number) (if (own.0 == list) && (own.1 == number) then Some word.now else None)
word_added old new own word put none list number =
    ap (option_map (λ s. s.now)) (put.0 (list, number))
    ∙ mapped ((own.0 == list) && (own.1 == number)) word (get_by (λ k. (list == k.0) && (number == k.1)) old)
    ∙ chosen ((own.0 == list) && (own.1 == number)) (word_in old list number) word.now (λ same.
    let parts = both_are (own.0 == list) (own.1 == number) same in
    ap₂ (word_in old) (sym (eqb-true own.0 list parts.0)) (sym (eqb-true own.1 number parts.1)) ∙ none)
  where
    mapped : (b : Bool) (w : Bor (List ℕ)) (found : Option (Bor (List ℕ)))
        → option_map (λ s. s.now) (cond b (Some w) found) ≡ cond b (Some w.now) (option_map (λ s. s.now) found)
    mapped true w found = refl
    mapped false w found = refl

-- what is found among some lines, in the next one, or behind that
pub first_among : {A : Type 0} (found next behind : Option A) → first_of found (first_of next behind) ≡ first_of (first_of found next) behind
first_among None next behind = refl
first_among (Some a) next behind = refl

first_none : {A : Type 0} (o : Option A) → first_of o None ≡ o
first_none None = refl
first_none (Some a) = refl

module _ (rest line more : List ℕ) (lt : position_or_len is_line_feed rest < length rest) (l : line ≡ before_first is_line_feed rest)
    (m : more ≡ after_first is_line_feed rest) where
  pub number_line : (list : ℕ) (word : List ℕ) → number_named rest list word ≡ first_of (number_said (row_of line) list word) (number_named more list word)
  unfolding number_named
  number_line list word = ap (λ ls. number_among ls list word) (first_line rest line more lt l m)

  pub word_line : (list number : ℕ) → word_named rest list number ≡ first_of (word_said (row_of line) list number) (word_named more list number)
  unfolding word_named
  word_line list number = ap (λ ls. word_among ls list number) (first_line rest line more lt l m)

module _ (rest : List ℕ) (is : position_or_len is_line_feed rest ≡ length rest) where
  pub number_last : (list : ℕ) (word : List ℕ) → number_named rest list word ≡ number_said (row_of rest) list word
  unfolding number_named
  number_last list word = ap (λ ls. number_among ls list word) (last_line rest is) ∙ first_none (number_said (row_of rest) list word)

  pub word_last : (list number : ℕ) → word_named rest list number ≡ word_said (row_of rest) list number
  unfolding word_named
  word_last list number = ap (λ ls. word_among ls list number) (last_line rest is) ∙ first_none (word_said (row_of rest) list number)
