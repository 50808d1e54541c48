-- Lines of a table, and what they add.
use Rattle.std.proofs.Common.{◌≡◌, ◌≢◌, ℕ, suc, ◌+◌, ◌<◌, ◌≤◌, Bool, true, false, not, cond, List, [], ◌∷◌, length, get_or, Option, Some}
use Rattle.std.proofs.Common.{None, ap, sym, refl, ◌∙◌, arith}
use Rattle.std.specs.List.{onto_first, position_or_len, before_first, after_first}
use Rattle.std.specs.Str.{trim_end}
use Rattle.std.proofs.lemmas.Bool.{ne_eqb, lt-ltb, le-ltb}
use Rattle.std.proofs.lemmas.List.Splits.{slice_split_first}
use Rattle.kmip_ttlv_types.specs.Names.{tag_of}
use Rattle.kmip_ttlv_util.specs.TagNames.{no_names}
use Rattle.kmip_ttlv_names.specs.NameTables.{says_nothing, says_no_tag, named, is_space, is_line_feed, entry_of, line_of, lines_of}
use Rattle.kmip_ttlv_names.specs.NameTables.{names_after, bad_from, AddsLine, first_of, tag_if, tag_among, tag_named}

-- an empty line
pub blank_is : (s t : List ℕ) → t ≡ trim_end s → length t ≡ 0 → line_of s ≡ says_nothing
unfolding line_of
blank_is s [] is len = rw (← is) refl
blank_is s (c ∷ t) is len = absurd (omega (arith, len))

-- a comment
pub comment_is : (s t : List ℕ) → t ≡ trim_end s → length t ≢ 0 → get_or t 0 0 ≡ 35 → line_of s ≡ says_nothing
unfolding line_of
comment_is s [] is some first = absurd (some refl)
comment_is s (c ∷ t) is some first = let k : c ≡ 35 = first in rw (← is, k) refl

-- any other line
pub entry_is : (s t : List ℕ) → t ≡ trim_end s → length t ≢ 0 → get_or t 0 0 ≢ 35 → line_of s ≡ entry_of t
unfolding line_of
entry_is s [] is some first = absurd (some refl)
entry_is s (c ∷ t) is some first = let k : c ≢ 35 = first in rw (← is, ne_eqb c 35 k) refl

-- without a space it names no tag
pub entry_none : (t : List ℕ) → position_or_len is_space t ≡ length t → entry_of t ≡ says_no_tag
entry_none t is = rw (le-ltb (position_or_len is_space t) (length t) (omega arith)) refl

-- with one, what precedes it is a tag or not
pub entry_some : (t digits name : List ℕ) → position_or_len is_space t < length t → digits ≡ before_first is_space t → name ≡ after_first is_space t
    → entry_of t ≡ named (tag_of digits) name
entry_some t digits name lt d n = rw (lt-ltb (position_or_len is_space t) (length t) lt, d, n) refl

-- ---- lines

one_line : (x : ℕ) (b : Bool) (xs : List ℕ) (ls : List (List ℕ)) → cond (not b) (1 + position_or_len is_line_feed xs) 0 ≡ suc (length xs) → ls ≡ xs ∷ []
    → cond b ([] ∷ ls) (onto_first x ls) ≡ (x ∷ xs) ∷ []
one_line x true xs ls is same = absurd (omega (arith, is))
one_line x false xs ls is same = rw same refl

tail_is : (b : Bool) (n m : ℕ) → cond (not b) (1 + n) 0 ≡ suc m → n ≡ m
tail_is true n m is = absurd (omega (arith, is))
tail_is false n m is = omega (arith, is)

-- a text without line feeds is one line
pub last_line : (s : List ℕ) → position_or_len is_line_feed s ≡ length s → lines_of s ≡ s ∷ []
last_line [] is = refl
last_line (c ∷ s) is = one_line c (is_line_feed c) s (lines_of s) is (last_line s (tail_is (is_line_feed c) (position_or_len is_line_feed s) (length s) is))

-- what was read of a table, and what is left
pub record Reading (table rest : List ℕ) (names : ℕ → Option (List ℕ)) (number : ℕ) : Type 0 where
  pub names_are : names_after no_names (lines_of table) ≡ names_after names (lines_of rest)
  pub bad_is : bad_from 1 (lines_of table) ≡ bad_from number (lines_of rest)
  pub fits : number + length rest ≤ length table + 1

-- a line and the others
pub first_line : (rest line more : List ℕ) → position_or_len is_line_feed rest < length rest → line ≡ before_first is_line_feed rest
    → more ≡ after_first is_line_feed rest → lines_of rest ≡ line ∷ lines_of more
first_line rest line more lt l m = slice_split_first is_line_feed rest 0 lt ∙ ap (λ (x : List ℕ). x ∷ lines_of (after_first is_line_feed rest)) (sym l)
    ∙ ap (λ (x : List ℕ). line ∷ lines_of x) (sym m)

-- a good line is added
pub reading_on : (table rest line more : List ℕ) (names next : ℕ → Option (List ℕ)) (number : ℕ) → Reading table rest names number
    → position_or_len is_line_feed rest < length rest → line ≡ before_first is_line_feed rest → more ≡ after_first is_line_feed rest
    → length more < length rest → AddsLine names line true next → Reading table more next (number + 1)
reading_on table rest line more names next number r lt l m less add =
    let lines = first_line rest line more lt l m in
    record {
      names_are = r.names_are ∙ ap (names_after names) lines ∙ ap (λ (f : ℕ → Option (List ℕ)). names_after f (lines_of more)) (sym add.adds);
      bad_is = r.bad_is ∙ ap (bad_from number) lines ∙ ap (λ (b : Bool). cond b (bad_from (suc number) (lines_of more)) (Some number)) (sym add.tells)
          ∙ ap (λ (n : ℕ). bad_from n (lines_of more)) (omega-suc number);
      fits = omega (arith, r.fits);
    }
  where
    omega-suc : (n : ℕ) → suc n ≡ n + 1
    omega-suc n = omega arith

-- a bad one ends the parsing
pub reading_bad : (table rest line more : List ℕ) (names next : ℕ → Option (List ℕ)) (number : ℕ) → Reading table rest names number
    → position_or_len is_line_feed rest < length rest → line ≡ before_first is_line_feed rest → more ≡ after_first is_line_feed rest
    → AddsLine names line false next → bad_from 1 (lines_of table) ≡ Some number
reading_bad table rest line more names next number r lt l m add =
    let lines = first_line rest line more lt l m in
    r.bad_is ∙ ap (bad_from number) lines ∙ ap (λ (b : Bool). cond b (bad_from (suc number) (lines_of more)) (Some number)) (sym add.tells)

-- the last line
pub reading_last : (table rest : List ℕ) (names next : ℕ → Option (List ℕ)) (number : ℕ) → Reading table rest names number
    → position_or_len is_line_feed rest ≡ length rest → AddsLine names rest true next → next ≡ names_after no_names (lines_of table)
reading_last table rest names next number r is add = add.adds ∙ sym (r.names_are ∙ ap (names_after names) (last_line rest is))

pub reading_good : (table rest : List ℕ) (names next : ℕ → Option (List ℕ)) (number : ℕ) → Reading table rest names number
    → position_or_len is_line_feed rest ≡ length rest → AddsLine names rest true next → bad_from 1 (lines_of table) ≡ None
reading_good table rest names next number r is add = r.bad_is ∙ ap (bad_from number) (last_line rest is)
    ∙ ap (λ (b : Bool). cond b None (Some number)) (sym add.tells)

pub reading_no_last : (table rest : List ℕ) (names next : ℕ → Option (List ℕ)) (number : ℕ) → Reading table rest names number
    → position_or_len is_line_feed rest ≡ length rest → AddsLine names rest false next → bad_from 1 (lines_of table) ≡ Some number
reading_no_last table rest names next number r is add = r.bad_is ∙ ap (bad_from number) (last_line rest is)
    ∙ ap (λ (b : Bool). cond b None (Some number)) (sym add.tells)

-- ---- the tag of a name

-- it is that of the first line, or else of the others
pub first_tag : (name rest line more : List ℕ) → position_or_len is_line_feed rest < length rest → line ≡ before_first is_line_feed rest
    → more ≡ after_first is_line_feed rest → tag_named name rest ≡ first_of (tag_if name (line_of line)) (tag_named name more)
unfolding tag_named
first_tag name rest line more lt l m = ap (tag_among name) (first_line rest line more lt l m)

first_none : (o : Option ℕ) → first_of o None ≡ o
first_none None = refl
first_none (Some x) = refl

pub last_tag : (name rest : List ℕ) → position_or_len is_line_feed rest ≡ length rest → tag_named name rest ≡ tag_if name (line_of rest)
unfolding tag_named
last_tag name rest is = ap (tag_among name) (last_line rest is) ∙ first_none (tag_if name (line_of rest))
