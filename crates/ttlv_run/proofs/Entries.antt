-- The first entry of a list of names, and the others.
use Rattle.std.proofs.Common.{◌≡◌, ℕ, zero, suc, ◌+◌, ◌<◌, ◌≤◌, ◌^◌, ◌==◌, ◌&&◌, Bool, true, false, not, cond}
use Rattle.std.proofs.Common.{Bor, List, [], ◌∷◌, ◌++◌, length, Option, Some, None}
use Rattle.std.proofs.Common.{ap, refl, sym, subst, ◌∙◌, arith, get_or, true≢false}
use Rattle.std.specs.Prelude.{nat_lt}
use Rattle.std.specs.List.{position_or_len, before_first, after_first}
use Rattle.std.proofs.Math.Seq.{take-length, take-append-add, drop-append-add, drop-append_seam}
use Rattle.std.proofs.lemmas.List.{take-append-le, drop_all, length-append}
use Rattle.std.proofs.lemmas.Bool.{ltb-true, ltb-false, eqb-true, and_parts}
use Rattle.std.proofs.lemmas.List.Sums.{position_or_len_is}
use Rattle.memchr.specs.Find.{IsFirstByte, is_byte}
use Rattle.kmip_ttlv_types.specs.Names.{number}
use Rattle.kmip_ttlv_names.specs.ValueNames.{entry_name, is_equals, is_semicolon, name_of_value, or_else}
use Rattle.kmip_ttlv_names.proofs.Lists.{first_names, last_names, named_is, named_not}
use Rattle.ttlv_run.specs.Masks.{BeginsFor, IsNext}
use Rattle.ttlv_run.proofs.Bits.{no_entries, some_one}

-- where a test is passed first, in a list and behind one that doesn't pass it, or in front of what follows one that does
module _ (p : ℕ → Bool) where
  past : (xs ys : List ℕ) → position_or_len p xs ≡ length xs → position_or_len p (xs ++ ys) ≡ length xs + position_or_len p ys
  past [] ys none = omega arith
  past (x ∷ xs) ys none = by (past xs ys) (p x) none
    where
      by : (position_or_len p xs ≡ length xs → position_or_len p (xs ++ ys) ≡ length xs + position_or_len p ys)
          → (b : Bool) → cond (not b) (1 + position_or_len p xs) 0 ≡ suc (length xs)
          → cond (not b) (1 + position_or_len p (xs ++ ys)) 0 ≡ suc (length xs) + position_or_len p ys
      by rest true none = absurd (omega (arith, none))
      by rest false none = omega (arith, rest (omega (arith, none)))

  within : (xs ys : List ℕ) → position_or_len p xs < length xs → position_or_len p (xs ++ ys) ≡ position_or_len p xs
  within [] ys lt = absurd (omega (arith, lt))
  within (x ∷ xs) ys lt = by (within xs ys) (p x) lt
    where
      by : (position_or_len p xs < length xs → position_or_len p (xs ++ ys) ≡ position_or_len p xs)
          → (b : Bool) → cond (not b) (1 + position_or_len p xs) 0 < suc (length xs)
          → cond (not b) (1 + position_or_len p (xs ++ ys)) 0 ≡ cond (not b) (1 + position_or_len p xs) 0
      by rest true lt = refl
      by rest false lt = omega (arith, rest (omega (arith, lt)))

  at_most : (xs : List ℕ) → position_or_len p xs ≤ length xs
  at_most [] = omega arith
  at_most (x ∷ xs) = by (at_most xs) (p x)
    where
      by : position_or_len p xs ≤ length xs → (b : Bool) → cond (not b) (1 + position_or_len p xs) 0 ≤ suc (length xs)
      by rest true = omega arith
      by rest false = omega (arith, rest)

off : (b : Bool) → (b ≡ true → ⊥) → b ≡ false
off true not = absurd (not refl)
off false not = refl

-- where the search for a semicolon finds one, and where it finds none
pub found : (list : List ℕ) (k : ℕ) → IsFirstByte (is_byte 59) list (Some k) → position_or_len is_semicolon list ≡ k
found list k h = position_or_len_is is_semicolon list k 0 (omega (arith, h.0.high)) (λ i lt. off _ (h.0.before i (omega arith) lt)) (λ lt. h.1)

pub absent : (list : List ℕ) → IsFirstByte (is_byte 59) list None → position_or_len is_semicolon list ≡ length list
absent list h = position_or_len_is is_semicolon list (length list) 0 (omega arith) (λ i lt. off _ (h i (omega arith) lt)) (λ lt. absurd (omega (arith, lt)))

pub all_first : (list : List ℕ) → position_or_len is_semicolon list ≡ length list → before_first is_semicolon list ≡ list
all_first list is = rw is (take-length list)

pub none_other : (list : List ℕ) → position_or_len is_semicolon list ≡ length list → after_first is_semicolon list ≡ []
none_other list is = rw is (drop_all (length list + 1) list (omega arith))

none_else : (o : Option (List ℕ)) → o ≡ or_else o None
none_else None = refl
none_else (Some name) = refl

-- a list without a semicolon is its first entry, and there are no others
one_entry : (value : ℕ) (list : List ℕ) → position_or_len is_semicolon list ≡ length list
    → name_of_value value list ≡ or_else (entry_name value (before_first is_semicolon list)) (name_of_value value (after_first is_semicolon list))
one_entry value list is =
    rw (all_first list is, none_other list is, no_entries value) (last_names value list is ∙ none_else (entry_name value list))

-- the name in a list is that in its first entry, or else in the others
pub cut_names : (value : ℕ) (list : List ℕ)
    → name_of_value value list ≡ or_else (entry_name value (before_first is_semicolon list)) (name_of_value value (after_first is_semicolon list))
cut_names value list = by (nat_lt (position_or_len is_semicolon list) (length list)) refl
  where
    by : (b : Bool) → nat_lt (position_or_len is_semicolon list) (length list) ≡ b
        → name_of_value value list ≡ or_else (entry_name value (before_first is_semicolon list)) (name_of_value value (after_first is_semicolon list))
    by true lt = first_names value list _ _ (ltb-true _ _ lt) refl refl
    by false le = one_entry value list (omega (arith, ltb-false _ _ le, at_most is_semicolon list))

-- by its first entry, if that has no name for a value, and if it has one
pub cut_passed : (value : ℕ) (list entry others : List ℕ) → entry ≡ before_first is_semicolon list → others ≡ after_first is_semicolon list
    → entry_name value entry ≡ None → name_of_value value list ≡ name_of_value value others
cut_passed value list entry others e o none = cut_names value list
    ∙ ap (λ (x : List ℕ). or_else (entry_name value x) (name_of_value value (after_first is_semicolon list))) (sym e)
    ∙ ap (λ (x : List ℕ). or_else (entry_name value entry) (name_of_value value x)) (sym o)
    ∙ ap (λ (x : Option (List ℕ)). or_else x (name_of_value value others)) none

pub cut_named : (value : ℕ) (list entry others name : List ℕ) → entry ≡ before_first is_semicolon list → others ≡ after_first is_semicolon list
    → entry_name value entry ≡ Some name → name_of_value value list ≡ Some name
cut_named value list entry others name e o is = cut_names value list
    ∙ ap (λ (x : List ℕ). or_else (entry_name value x) (name_of_value value (after_first is_semicolon list))) (sym e)
    ∙ ap (λ (x : Option (List ℕ)). or_else x (name_of_value value (after_first is_semicolon list))) is

-- an entry that begins for a value has a name for it, and for no other
module _ (value : ℕ) (front : List ℕ) (b : BeginsFor value front) (name : List ℕ) where
  place : position_or_len is_equals (front ++ name) ≡ position_or_len is_equals front
  place = within is_equals front name (omega (arith, b.ends))

  here : position_or_len is_equals (front ++ name) < length (front ++ name)
  here = omega (arith, place, b.ends, length-append front name)

  digits : before_first is_equals front ≡ before_first is_equals (front ++ name)
  digits = rw place (sym (take-append-le (position_or_len is_equals front) front name (omega (arith, b.ends))))

  behind : name ≡ after_first is_equals (front ++ name)
  behind = rw (place, b.ends) (sym (drop-append_seam front name))

  pub front_named : entry_name value (front ++ name) ≡ Some name
  front_named = named_is value (front ++ name) (before_first is_equals front) name here digits behind b.means

  pub front_only : (other : ℕ) → value < other → entry_name other (front ++ name) ≡ None
  front_only other lt = named_not other (front ++ name) (before_first is_equals front) name here digits behind
      (λ is. omega (arith, lt, some_one (sym b.means ∙ is)))

-- the first entry of a list that begins for a value, and the others
module _ (value : ℕ) (front named : List ℕ) (b : BeginsFor value front) where
  seam : position_or_len is_semicolon (front ++ named) ≡ length front + position_or_len is_semicolon named
  seam = past is_semicolon front named b.one

  entry_is : before_first is_semicolon (front ++ named) ≡ front ++ before_first is_semicolon named
  entry_is = rw seam (take-append-add front named (position_or_len is_semicolon named))

  others_are : after_first is_semicolon (front ++ named) ≡ after_first is_semicolon named
  others_are =
      let on : position_or_len is_semicolon (front ++ named) + 1 ≡ length front + (position_or_len is_semicolon named + 1) = omega (arith, seam) in
      rw on (drop-append-add front named (position_or_len is_semicolon named + 1))

  pub front_next : IsNext value (front ++ named) (Some (before_first is_semicolon named)) (after_first is_semicolon named)
  front_next = (
    sym (cut_named value (front ++ named) _ _ _ (sym entry_is) (sym others_are) (front_named value front b (before_first is_semicolon named))),
    λ other lt. cut_passed other (front ++ named) _ _ (sym entry_is) (sym others_are) (front_only value front b (before_first is_semicolon named) other lt),
  )

unfoldable pub is_number : ℕ → Option ℕ → Bool
is_number value None = false
is_number value (Some n) = n == value

unfoldable pub begins : ℕ → List ℕ → Bool
begins value front = is_number value (number (before_first is_equals front))
    && (position_or_len is_equals front + 1 == length front) && (position_or_len is_semicolon front == length front)

-- whether texts begin entries for the bits from a place on
unfoldable pub all_begin : ℕ → List (Bor (List ℕ)) → Bool
all_begin start [] = true
all_begin start (f ∷ fs) = begins (2 ^ start) f.now && all_begin (suc start) fs

number_is : (value : ℕ) (o : Option ℕ) → is_number value o ≡ true → o ≡ Some value
unfolding is_number
number_is value None is = absurd (true≢false (sym is))
number_is value (Some n) is = ap Some (eqb-true n value is)

three : (a b c : Bool) → (a && b && c) ≡ true → (a ≡ true) × (b ≡ true) × (c ≡ true)
three a b c is = let x = and_parts (a && b) c is in let y = and_parts a b x.0 in (y.0, y.1, x.1)

begins_is : (value : ℕ) (front : List ℕ) → begins value front ≡ true → BeginsFor value front
unfolding begins
begins_is value front is =
    let t = three (is_number value (number (before_first is_equals front))) (position_or_len is_equals front + 1 == length front)
    (position_or_len is_semicolon front == length front) is in record {
      means = number_is value (number (before_first is_equals front)) t.0;
      ends = eqb-true (position_or_len is_equals front + 1) (length front) t.1;
      one = eqb-true (position_or_len is_semicolon front) (length front) t.2;
    }

one_begins : (fs : List (Bor (List ℕ))) (place start : ℕ) (d : Bor (List ℕ)) → all_begin start fs ≡ true → place < length fs
    → BeginsFor (2 ^ (start + place)) (get_or fs place d).now
unfolding all_begin
one_begins [] place start d all lt = absurd (omega (arith, lt))
one_begins (f ∷ fs) zero start d all lt =
    subst (λ (k : ℕ). BeginsFor (2 ^ k) f.now) (omega arith)
    (begins_is (2 ^ start) f.now (and_parts (begins (2 ^ start) f.now) (all_begin (suc start) fs) all).0)
one_begins (f ∷ fs) (suc place) start d all lt =
    subst (λ (k : ℕ). BeginsFor (2 ^ k) (get_or fs place d).now) (omega arith)
    (one_begins fs place (suc start) d (and_parts (begins (2 ^ start) f.now) (all_begin (suc start) fs) all).1 (omega (arith, lt)))

pub all_begins : (fs : List (Bor (List ℕ))) (place : ℕ) (d : Bor (List ℕ)) → all_begin 0 fs ≡ true → place < length fs
    → BeginsFor (2 ^ place) (get_or fs place d).now
all_begins fs place d all lt = subst (λ (k : ℕ). BeginsFor (2 ^ k) (get_or fs place d).now) (omega arith) (one_begins fs place 0 d all lt)
