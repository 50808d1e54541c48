-- Where values of JSON end: what stands in front of a value's end, and the values of a text.
use Rattle.std.proofs.Common.{arith, ◌≡◌, ◌∙◌, ℕ, suc, ◌+◌, ◌-◌, ◌<◌, ◌≤◌, ◌||◌, Bool, true, false, List, [], ◌∷◌, ◌++◌, length}
use Rattle.std.proofs.Common.{take, drop, Some, None}
use Rattle.std.proofs.Common.{take-add, ap, sym, refl, subst, append-nil, append_assoc, length-append, if◌then◌else◌, ◌==◌, take_all}
use Rattle.std.specs.{Str.IsUtf8, Prelude.slice_index}
use Rattle.std.proofs.lemmas.Bool.{eqb-true}
use Rattle.std.proofs.lemmas.Bool.Decides.{nat_tests}
use Rattle.std.proofs.lemmas.Str.{IsUtf8-append, IsUtf8-from_ascii}
use Rattle.std.proofs.lemmas.Str.Ascii.{IsAscii-cons, IsAscii-nil}
use Rattle.std.proofs.lemmas.List.{length-take-le, take-append-le}
use Rattle.std.proofs.Math.Seq.{take-suc}
use Rattle.ttlv_run.specs.declared.json_ends.Part.{Part}
use Rattle.ttlv_run.specs.declared.json_ends.Part.TheVariants.{Front, Line, Brackets, Text, Backslash}
use Rattle.ttlv_run.specs.JsonEnds.{is_opening, is_closing, is_in_front, ends_line, closes, is_end, part_after, depth_of, goes_on, values_from}
use Rattle.ttlv_run.specs.JsonEnds.{values_of, IsOpen, IsWhole, by_feed, by_bracket, IsFirst, IsSeen}

-- bytes behind others, none of which ends the value
pub goes_append : (part p : Part) (xs ys : List ℕ) → goes_on part xs ≡ Some p → goes_on part (xs ++ ys) ≡ goes_on p ys
goes_append part p [] ys h = let same : part ≡ p = cc in ap (λ (q : Part). goes_on q ys) same
goes_append part p (b ∷ xs) ys h =
    (elim (is_end part b) as (λ v. (if v then None else goes_on (part_after part b) xs) ≡ Some p
    → (if v then None else goes_on (part_after part b) (xs ++ ys)) ≡ goes_on p ys) [
      | true ↦ λ none. absurd cc
      | false ↦ λ on. goes_append (part_after part b) p xs ys on
    ]) h

-- one byte more
pub goes_suc : (part p : Part) (s : List ℕ) (n : ℕ) → n < length s → goes_on part (take n s) ≡ Some p → is_end p (slice_index s n) ≡ false
    → goes_on part (take (n + 1) s) ≡ Some (part_after p (slice_index s n))
goes_suc part p s n lt h goes_past =
    let one : goes_on p (slice_index s n ∷ []) ≡ Some (part_after p (slice_index s n)) =
    ap (λ (v : Bool). if v then None else Some (part_after p (slice_index s n))) goes_past in
    let next : n + 1 ≡ suc n = omega arith in
    let more : take (n + 1) s ≡ take n s ++ slice_index s n ∷ [] = ap (λ (k : ℕ). take k s) next ∙ take-suc s n 0 lt in
    ap (goes_on part) more ∙ goes_append part p (take n s) (slice_index s n ∷ []) h ∙ one

pub depth_after : (part : Part) (b : ℕ) → depth_of (part_after part b) ≤ depth_of part + 1
depth_after Front b = elim (is_opening b) as (λ v. depth_of (if v then Brackets 1 else if is_in_front b then Front else Line) ≤ 1) [
  | true ↦ omega arith
  | false ↦ elim (is_in_front b) as (λ v. depth_of (if v then Front else Line) ≤ 1) [ true ↦ omega arith | false ↦ omega arith ]
]
depth_after Line b = omega arith
depth_after (Brackets d) b =
    elim (b == 34) as (λ u.
    depth_of (if u then Text d else if is_opening b then Brackets (d + 1) else if is_closing b then Brackets (d - 1) else Brackets d) ≤ d + 1) [
      | true ↦ omega arith
      | false ↦ elim (is_opening b) as (λ v. depth_of (if v then Brackets (d + 1) else if is_closing b then Brackets (d - 1) else Brackets d) ≤ d + 1) [
        | true ↦ omega arith
        | false ↦ elim (is_closing b) as (λ w. depth_of (if w then Brackets (d - 1) else Brackets d) ≤ d + 1) [ true ↦ omega arith | false ↦ omega arith ]
      ]
    ]
depth_after (Text d) b = elim (b == 34) as (λ u. depth_of (if u then Brackets d else if b == 92 then Backslash d else Text d) ≤ d + 1) [
  | true ↦ omega arith
  | false ↦ elim (b == 92) as (λ v. depth_of (if v then Backslash d else Text d) ≤ d + 1) [ true ↦ omega arith | false ↦ omega arith ]
]
depth_after (Backslash d) b = omega arith

-- each byte opens one bracket at most
pub depth_within : (part p : Part) (xs : List ℕ) → goes_on part xs ≡ Some p → depth_of p ≤ depth_of part + length xs
depth_within part p [] h = let same : part ≡ p = cc in omega (arith, ap depth_of same)
depth_within part p (b ∷ xs) h =
    (elim (is_end part b) as (λ v. (if v then None else goes_on (part_after part b) xs) ≡ Some p → depth_of p ≤ depth_of part + length (b ∷ xs)) [
      | true ↦ λ none. absurd cc
      | false ↦ λ on. omega (arith, depth_within (part_after part b) p xs on, depth_after part b)
    ]) h

-- ---- the values of a text

values_through : (part p : Part) (v xs ys : List ℕ) → goes_on part xs ≡ Some p → values_from part v (xs ++ ys) ≡ values_from p (v ++ xs) ys
values_through part p v [] ys h =
    let same : part ≡ p = cc in
    ap (λ (q : Part). values_from q v ys) same ∙ ap (λ (u : List ℕ). values_from p u ys) (sym (append-nil v))
values_through part p v (b ∷ xs) ys h =
    let on = part_after part b in
    (elim (ends_line part b) as (λ e. (if (e || closes part b) then None else goes_on on xs) ≡ Some p
    → (if e then v ∷ values_from Front [] (xs ++ ys)
    else if closes part b then (v ++ b ∷ []) ∷ values_from Front [] (xs ++ ys)
    else values_from on (v ++ b ∷ []) (xs ++ ys)) ≡ values_from p (v ++ b ∷ xs) ys) [
      | true ↦ λ none. absurd cc
      | false ↦ elim (closes part b) as (λ c. (if (false || c) then None else goes_on on xs) ≡ Some p
          → (if c then (v ++ b ∷ []) ∷ values_from Front [] (xs ++ ys)
          else values_from on (v ++ b ∷ []) (xs ++ ys)) ≡ values_from p (v ++ b ∷ xs) ys) [
            | true ↦ λ none. absurd cc
            | false ↦ λ goes. values_through on p (v ++ b ∷ []) xs ys goes ∙ ap (λ (u : List ℕ). values_from p u ys) (append_assoc v (b ∷ []) xs)
          ]
    ]) h

-- a bracket ends no line
no_feed : (part : Part) (b : ℕ) → closes part b ≡ true → ends_line part b ≡ false
no_feed Front b h = absurd cc
no_feed Line b h = absurd cc
no_feed (Brackets d) b h = refl
no_feed (Text d) b h = refl
no_feed (Backslash d) b h = refl

-- a whole value in front of a text
pub first_of_values : {value w : List ℕ} → IsWhole value w → (more : List ℕ) → values_of (w ++ more) ≡ value ∷ values_of more
unfolding values_of
first_of_values {value} {w} (by_feed part goes ends is) more =
    ap (λ (u : List ℕ). values_from Front [] (u ++ more)) is ∙ ap (values_from Front []) (append_assoc value (10 ∷ []) more)
    ∙ values_through Front part [] value (10 ∷ more) goes
    ∙ ap (λ (e : Bool). if e then value ∷ values_from Front [] more
    else if closes part 10 then (value ++ 10 ∷ []) ∷ values_from Front [] more
    else values_from (part_after part 10) (value ++ 10 ∷ []) more) ends
first_of_values {value} {w} (by_bracket front b part goes ends is same) more =
    ap (λ (u : List ℕ). values_from Front [] (u ++ more)) (same ∙ is) ∙ ap (values_from Front []) (append_assoc front (b ∷ []) more)
    ∙ values_through Front part [] front (b ∷ more) goes
    ∙ ap (λ (e : Bool). if e then front ∷ values_from Front [] more
    else if closes part b then (front ++ b ∷ []) ∷ values_from Front [] more
    else values_from (part_after part b) (front ++ b ∷ []) more) (no_feed part b ends)
    ∙ ap (λ (e : Bool). if e then (front ++ b ∷ []) ∷ values_from Front [] more
    else values_from (part_after part b) (front ++ b ∷ []) more) ends
    ∙ ap (λ (u : List ℕ). u ∷ values_from Front [] more) (sym is)

-- one that goes on is the only one
pub only_value : (s : List ℕ) → IsOpen s → values_of s ≡ s ∷ []
unfolding values_of
only_value s is_open = ap (values_from Front []) (sym (append-nil s)) ∙ values_through Front is_open.part [] s [] is_open.goes

-- a value's line feed is text
pub whole_text : {value w : List ℕ} → IsWhole value w → IsUtf8 value → IsUtf8 w
whole_text {value} (by_feed part goes ends is) u =
    subst IsUtf8 (sym is) (IsUtf8-append value (10 ∷ []) u (IsUtf8-from_ascii (10 ∷ []) (IsAscii-cons 10 [] (omega arith) IsAscii-nil)))
whole_text (by_bracket front b part goes ends is same) u = subst IsUtf8 (sym same) u

-- ---- bytes that were seen

-- none were
pub none_seen : (s : List ℕ) → IsSeen s 0 Front
none_seen s = record { within = omega arith; goes = refl }

-- more came behind a value that goes on
pub seen_more : (s more : List ℕ) (part : Part) → goes_on Front s ≡ Some part → IsSeen (s ++ more) (length s) part
seen_more s more part goes = record {
  within = omega (arith, length-append s more);
  goes = ap (goes_on Front) (take-append-le (length s) s more (omega arith) ∙ take_all (length s) s (omega arith)) ∙ goes;
}

-- a byte ends a line, or else a bracket
feed_at : (part : Part) (b : ℕ) → is_end part b ≡ true → closes part b ≡ false → (b ≡ 10) × (ends_line part 10 ≡ true)
feed_at Front b ends goes_past = (eqb-true b 10 (grind (arith, nat_tests)), refl)
feed_at Line b ends goes_past = (eqb-true b 10 (grind (arith, nat_tests)), refl)
feed_at (Brackets d) b ends goes_past = absurd (grind (arith, nat_tests))
feed_at (Text d) b ends goes_past = absurd cc
feed_at (Backslash d) b ends goes_past = absurd cc

module _
    (s : List ℕ) (n : ℕ) (part : Part) (lt : n < length s) (goes : goes_on Front (take n s) ≡ Some part)
    (ends : is_end part (slice_index s n) ≡ true)
  where
    more : take (n + 1) s ≡ take n s ++ slice_index s n ∷ []
    more = let one : n + 1 ≡ suc n = omega arith in ap (λ (k : ℕ). take k s) one ∙ take-suc s n 0 lt

    -- the value that a bracket ends
    pub value_closed : closes part (slice_index s n) ≡ true → IsFirst s (take (n + 1) s) (n + 1)
    value_closed closed = record {
      some = omega arith;
      within = omega arith;
      whole = by_bracket (take n s) (slice_index s n) part goes closed more refl;
      shorter = omega (arith, length-take-le (n + 1) s (omega arith));
    }

    -- the one that a line feed ends
    pub value_in_line : closes part (slice_index s n) ≡ false → IsFirst s (take n s) (n + 1)
    value_in_line goes_past =
        let feed = feed_at part (slice_index s n) ends goes_past in
        record {
          some = omega arith;
          within = omega arith;
          whole = by_feed part goes feed.1 (more ∙ ap (λ (b : ℕ). take n s ++ b ∷ []) feed.0);
          shorter = omega (arith, length-take-le n s (omega arith));
        }

module _ (s : List ℕ) (seen more : ℕ) (part next : Part) (h : IsSeen s seen part) (within : more ≤ length (drop seen s))
    (goes : goes_on part (take more (drop seen s)) ≡ Some next) where
  -- more bytes were seen
  pub seen_on : goes_on Front (take (seen + more) s) ≡ Some next
  seen_on = ap (goes_on Front) (take-add seen more s) ∙ goes_append Front part (take seen s) (take more (drop seen s)) h.goes ∙ goes

  pub seen_all : length s ≤ seen + more → goes_on Front s ≡ Some next
  seen_all le = ap (goes_on Front) (sym (take_all (seen + more) s le)) ∙ seen_on

-- fewer brackets than bytes
pub depth_seen : (s : List ℕ) (seen : ℕ) (part : Part) → IsSeen s seen part → depth_of part ≤ seen
depth_seen s seen part h = omega (arith, depth_within Front part (take seen s) h.goes, length-take-le seen s h.within)
