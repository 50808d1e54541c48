-- Entries of a list of values.
use Rattle.std.proofs.Common.{◌≡◌, ◌≢◌, ℕ, suc, ◌+◌, ◌<◌, Bool, true, false, not, cond, List, [], ◌∷◌, length, Option, Some, None, ap, sym, refl, ◌∙◌, arith}
use Rattle.std.specs.List.{slice_split, onto_first, position_or_len, before_first, after_first}
use Rattle.std.proofs.lemmas.Bool.{lt-ltb, le-ltb, ne_eqb, eq-eqb}
use Rattle.std.proofs.lemmas.List.Splits.{slice_split_first}
use Rattle.kmip_ttlv_types.specs.Names.{number}
use Rattle.kmip_ttlv_names.specs.ValueNames.{is_semicolon, is_equals, name_if, entry_name, or_else, name_among, name_of_value}

-- without `=` an entry names no value
pub no_entry : (value : ℕ) (s : List ℕ) → position_or_len is_equals s ≡ length s → entry_name value s ≡ None
unfolding entry_name
no_entry value s is = rw (le-ltb (position_or_len is_equals s) (length s) (omega arith)) refl

-- with one it names the number before it, if there is one
some_entry : (value : ℕ) (s digits name : List ℕ) → position_or_len is_equals s < length s → digits ≡ before_first is_equals s
    → name ≡ after_first is_equals s → entry_name value s ≡ name_if value (number digits) name
unfolding entry_name
some_entry value s digits name lt d n = rw (lt-ltb (position_or_len is_equals s) (length s) lt, d, n) refl

one_entry : (x : ℕ) (b : Bool) (xs : List ℕ) (ls : List (List ℕ)) → cond (not b) (1 + position_or_len is_semicolon xs) 0 ≡ suc (length xs) → ls ≡ xs ∷ []
    → cond b ([] ∷ ls) (onto_first x ls) ≡ (x ∷ xs) ∷ []
one_entry x true xs ls is same = absurd (omega (arith, is))
one_entry x false xs ls is same = rw same refl

tail_is : (b : Bool) (n m : ℕ) → cond (not b) (1 + n) 0 ≡ suc m → n ≡ m
tail_is true n m is = absurd (omega (arith, is))
tail_is false n m is = omega (arith, is)

-- a list without semicolons is one entry
last_entry : (s : List ℕ) → position_or_len is_semicolon s ≡ length s → slice_split is_semicolon s ≡ s ∷ []
last_entry [] is = refl
last_entry (c ∷ s) is = one_entry c (is_semicolon c) s (slice_split is_semicolon s) is
    (last_entry s (tail_is (is_semicolon c) (position_or_len is_semicolon s) (length s) is))

-- an entry and the others
first_entry : (rest entry more : List ℕ) → position_or_len is_semicolon rest < length rest → entry ≡ before_first is_semicolon rest
    → more ≡ after_first is_semicolon rest → slice_split is_semicolon rest ≡ entry ∷ slice_split is_semicolon more
first_entry rest entry more lt e m = slice_split_first is_semicolon rest 0 lt
    ∙ ap (λ (x : List ℕ). x ∷ slice_split is_semicolon (after_first is_semicolon rest)) (sym e)
    ∙ ap (λ (x : List ℕ). entry ∷ slice_split is_semicolon x) (sym m)

-- the name in a list is that in its first entry, or else in the others
pub first_names : (value : ℕ) (rest entry more : List ℕ) → position_or_len is_semicolon rest < length rest → entry ≡ before_first is_semicolon rest
    → more ≡ after_first is_semicolon rest → name_of_value value rest ≡ or_else (entry_name value entry) (name_of_value value more)
unfolding name_of_value
first_names value rest entry more lt e m = ap (name_among value) (first_entry rest entry more lt e m)

or_none : (o : Option (List ℕ)) → or_else o None ≡ o
or_none None = refl
or_none (Some x) = refl

pub last_names : (value : ℕ) (rest : List ℕ) → position_or_len is_semicolon rest ≡ length rest → name_of_value value rest ≡ entry_name value rest
unfolding name_of_value
last_names value rest is = ap (name_among value) (last_entry rest is) ∙ or_none (entry_name value rest)

-- an entry gives a name to its number and to no other
pub named_is : (value : ℕ) (s digits name : List ℕ) → position_or_len is_equals s < length s → digits ≡ before_first is_equals s
    → name ≡ after_first is_equals s → number digits ≡ Some value → entry_name value s ≡ Some name
named_is value s digits name lt d n is = some_entry value s digits name lt d n ∙ ap (λ (o : Option ℕ). name_if value o name) is
    ∙ rw (eq-eqb value value refl) refl

pub named_not : (value : ℕ) (s digits name : List ℕ) → position_or_len is_equals s < length s → digits ≡ before_first is_equals s
    → name ≡ after_first is_equals s → (number digits ≡ Some value → ⊥) → entry_name value s ≡ None
named_not value s digits name lt d n not = some_entry value s digits name lt d n ∙ by (number digits) not
  where
    by : (o : Option ℕ) → (o ≡ Some value → ⊥) → name_if value o name ≡ None
    by None not = refl
    by (Some m) not = let k : m ≢ value = λ e. not (ap Some e) in rw (ne_eqb m value k) refl
