-- The items that a walk stored, how the ends of structures are nested, and what is wrong with a value.
use Rattle.std.proofs.Common.{◌≡◌, ℕ, suc, ◌+◌, ◌≤◌, List, [], ◌∷◌, ◌++◌, length, map, set, ap, sym, refl, ◌∙◌, arith}
use Rattle.std.proofs.lemmas.List.{map-append}
use Rattle.kmip_ttlv_types.specs.Places.{length_at}
use Rattle.kmip_ttlv_items.specs.{declared.found.FoundItem.FoundItem, FoundItems.overlaid}

-- ---- the caller's list

pub overlaid_none : {X : Type 0} (ys : List X) → overlaid [] ys ≡ ys
overlaid_none [] = refl
overlaid_none (y ∷ ys) = refl

-- one more item is stored
overlaid_more : {X : Type 0} (xs ys : List X) (x : X) → set (overlaid xs ys) (length xs) x ≡ overlaid (xs ++ (x ∷ [])) ys
overlaid_more [] [] x = refl
overlaid_more [] (y ∷ ys) x = ap (λ (s : List _). x ∷ s) (sym (overlaid_none ys))
overlaid_more (z ∷ xs) [] x = refl
overlaid_more (z ∷ xs) (y ∷ ys) x = ap (λ (s : List _). z ∷ s) (overlaid_more xs ys x)

pub keeps_more : {T : Type 0} (from_item : FoundItem → T) (found : List FoundItem) (i : FoundItem) (old out new : List T) (count : ℕ)
    → out ≡ overlaid (map from_item found) old → count ≡ length found → new ≡ set out count (from_item i)
    → new ≡ overlaid (map from_item (found ++ (i ∷ []))) old
keeps_more from_item found i old out new count converted counts is =
    let n : count ≡ length (map from_item found) = counts ∙ sym (length_map found) in
    is ∙ ap (λ (s : List _). set s count (from_item i)) converted ∙ ap (λ (m : ℕ). set (overlaid (map from_item found) old) m (from_item i)) n
    ∙ overlaid_more (map from_item found) old (from_item i)
    ∙ ap (λ (s : List _). overlaid s old) (sym (map-append from_item found (i ∷ [])))
  where
    length_map : (xs : List FoundItem) → length (map from_item xs) ≡ length xs
    length_map [] = refl
    length_map (x ∷ xs) = ap suc (length_map xs)

-- ends are nested, and the outermost is the one that the root's header states
abbrev pub IsNested : List ℕ → ℕ → List ℕ → Type 0
IsNested w p [] = p ≡ 8 + length_at w 0
IsNested w p (e ∷ es) = (p ≤ e) × IsNested w e es

pub nested_within : (w : List ℕ) (p : ℕ) (es : List ℕ) → IsNested w p es → p ≤ 8 + length_at w 0
nested_within w p [] h = omega (arith, h)
nested_within w p (e ∷ es) h = omega (arith, h.0, nested_within w e es h.1)
