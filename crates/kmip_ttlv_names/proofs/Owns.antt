-- Lines of a table that names values too.
use Rattle.std.proofs.Common.{◌≡◌, ℕ, suc, ◌+◌, ◌<◌, ◌≤◌, Bool, true, false, cond, List, ◌∷◌, length, Option, Some, None, ap, sym, refl, ◌∙◌, arith}
use Rattle.std.specs.List.{position_or_len, before_first, after_first}
use Rattle.std.specs.Str.{trim_end}
use Rattle.std.proofs.lemmas.Bool.{lt-ltb, le-ltb}
use Rattle.kmip_ttlv_types.specs.Names.{tag_of, number}
use Rattle.kmip_ttlv_util.specs.TagNames.{no_names}
use Rattle.kmip_ttlv_names.specs.NameTables.{says_no_tag, is_space, is_line_feed, lines_of, names_after}
use Rattle.kmip_ttlv_names.specs.OwnNames.{is_colon, named_value, word_named, value_entry_of, value_line_of, values_after, bad_own_from, AddsOwn}
use Rattle.kmip_ttlv_names.proofs.Tables.{first_line, last_line}

-- without a space a line names no value
pub value_none : (s t : List ℕ) → t ≡ trim_end s → position_or_len is_space t ≡ length t → value_line_of s ≡ says_no_tag
unfolding value_line_of
value_none s t is none = ap value_entry_of (sym is) ∙ rw (le-ltb (position_or_len is_space t) (length t) (omega arith)) refl

-- with one, what precedes it is a tag and a value or not
pub value_some : (s t word name : List ℕ) → t ≡ trim_end s → position_or_len is_space t < length t → word ≡ before_first is_space t
    → name ≡ after_first is_space t → value_line_of s ≡ word_named word name
unfolding value_line_of
value_some s t word name is lt w n = ap value_entry_of (sym is) ∙ rw (lt-ltb (position_or_len is_space t) (length t) lt, w, n) refl

-- without a colon it is neither
pub word_none : (word name : List ℕ) → position_or_len is_colon word ≡ length word → word_named word name ≡ says_no_tag
word_none word name none = rw (le-ltb (position_or_len is_colon word) (length word) (omega arith)) refl

pub word_some : (word name digits value : List ℕ) → position_or_len is_colon word < length word → digits ≡ before_first is_colon word
    → value ≡ after_first is_colon word → word_named word name ≡ named_value (tag_of digits) (number value) name
word_some word name digits value lt d v = rw (lt-ltb (position_or_len is_colon word) (length word) lt, d, v) refl

-- what was read of a table, and what is left
pub record OwnReading (table rest : List ℕ) (tags values : ℕ → Option (List ℕ)) (number : ℕ) : Type 0 where
  pub tags_are : names_after no_names (lines_of table) ≡ names_after tags (lines_of rest)
  pub values_are : values_after no_names (lines_of table) ≡ values_after values (lines_of rest)
  pub bad_is : bad_own_from 1 (lines_of table) ≡ bad_own_from number (lines_of rest)
  pub fits : number + length rest ≤ length table + 1

module _ (table rest : List ℕ) (tags values tags' values' : ℕ → Option (List ℕ)) (number : ℕ) (r : OwnReading table rest tags values number) where
  -- what is said of the first bad line, if this is the next
  bad_at : (line more : List ℕ) (good : Bool) → lines_of rest ≡ line ∷ lines_of more → AddsOwn tags values line good tags' values'
      → bad_own_from 1 (lines_of table) ≡ cond good (bad_own_from (suc number) (lines_of more)) (Some number)
  bad_at line more good lines add = r.bad_is ∙ ap (bad_own_from number) lines
      ∙ ap (λ (b : Bool). cond b (bad_own_from (suc number) (lines_of more)) (Some number)) (sym add.tells)

  -- a good line is added
  pub own_on : (line more : List ℕ) → position_or_len is_line_feed rest < length rest → line ≡ before_first is_line_feed rest
      → more ≡ after_first is_line_feed rest → length more < length rest → AddsOwn tags values line true tags' values'
      → OwnReading table more tags' values' (number + 1)
  own_on line more lt l m less add =
      let lines = first_line rest line more lt l m in
      record {
        tags_are = r.tags_are ∙ ap (names_after tags) lines ∙ ap (λ (f : ℕ → Option (List ℕ)). names_after f (lines_of more)) (sym add.tags_are);
        values_are = r.values_are ∙ ap (values_after values) lines ∙ ap (λ (f : ℕ → Option (List ℕ)). values_after f (lines_of more)) (sym add.values_are);
        bad_is = bad_at line more true lines add ∙ ap (λ (n : ℕ). bad_own_from n (lines_of more)) (omega-suc number);
        fits = omega (arith, r.fits);
      }
    where
      omega-suc : (n : ℕ) → suc n ≡ n + 1
      omega-suc n = omega arith

  -- a bad one ends the parsing
  pub own_bad : (line more : List ℕ) → position_or_len is_line_feed rest < length rest → line ≡ before_first is_line_feed rest
      → more ≡ after_first is_line_feed rest → AddsOwn tags values line false tags' values' → bad_own_from 1 (lines_of table) ≡ Some number
  own_bad line more lt l m add = bad_at line more false (first_line rest line more lt l m) add

  -- the last line
  pub own_last : position_or_len is_line_feed rest ≡ length rest → AddsOwn tags values rest true tags' values' → (tags' ≡ names_after no_names (lines_of table))
      × (values' ≡ values_after no_names (lines_of table))
  own_last is add = (
    add.tags_are ∙ sym (r.tags_are ∙ ap (names_after tags) (last_line rest is)),
    add.values_are ∙ sym (r.values_are ∙ ap (values_after values) (last_line rest is)),
  )

  pub own_end : (good : Bool) → position_or_len is_line_feed rest ≡ length rest → AddsOwn tags values rest good tags' values'
      → bad_own_from 1 (lines_of table) ≡ cond good None (Some number)
  own_end good is add = r.bad_is ∙ ap (bad_own_from number) (last_line rest is) ∙ ap (λ (b : Bool). cond b None (Some number)) (sym add.tells)
