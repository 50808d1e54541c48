-- A loop that tests each element of a list.
use Rattle.std.proofs.Common.{◌≡◌, ◌+◌, ◌<◌, ◌≤◌, ℕ, Bool, true, false, ◌&&◌, ◌||◌, List, []}
use Rattle.std.proofs.Common.{◌∷◌, ◌++◌, refl, ap, sym, ◌∙◌, get_or, length, take, suc, zero, arith, true≢false}
use Rattle.std.proofs.Math.Seq.{take-suc}
use Rattle.std.proofs.lemmas.List.{take_all}
use Rattle.std.specs.List.{list_all, list_any}

true_or : (b : Bool) → true ≡ (b || true)
true_or true = refl
true_or false = refl

false_and : (b : Bool) → false ≡ (b && false)
false_and true = refl
false_and false = refl

both_false : (a b : Bool) → (a || b) ≡ false → (a ≡ false) × (b ≡ false)
both_false true b e = absurd (true≢false e)
both_false false b e = (refl, e)

both_true : (a b : Bool) → (a && b) ≡ true → (a ≡ true) × (b ≡ true)
both_true true b e = (refl, e)
both_true false b e = absurd (true≢false (sym e))

-- one passes, so one does
pub any_yes : {X : Type 0} (p : X → Bool) (xs : List X) (i : ℕ) (x : X) → i < length xs → x ≡ get_or xs i x → p x ≡ true → true ≡ list_any p xs
any_yes p [] i x h e t = absurd (omega (arith, h))
any_yes p (y ∷ xs) zero x h e t = ap (λ b. b || list_any p xs) (sym (ap p (sym e) ∙ t))
any_yes p (y ∷ xs) (suc i) x h e t = true_or (p y) ∙ ap (λ b. p y || b) (any_yes p xs i x (omega (arith, h)) e t)

-- one doesn't pass, so not all do
pub all_no : {X : Type 0} (p : X → Bool) (xs : List X) (i : ℕ) (x : X) → i < length xs → x ≡ get_or xs i x → p x ≡ false → false ≡ list_all p xs
all_no p [] i x h e f = absurd (omega (arith, h))
all_no p (y ∷ xs) zero x h e f = ap (λ b. b && list_all p xs) (sym (ap p (sym e) ∙ f))
all_no p (y ∷ xs) (suc i) x h e f = false_and (p y) ∙ ap (λ b. p y && b) (all_no p xs i x (omega (arith, h)) e f)

none_more : {X : Type 0} (p : X → Bool) (xs : List X) (x : X) → list_any p xs ≡ false → p x ≡ false → list_any p (xs ++ x ∷ []) ≡ false
none_more p [] x e f = ap (λ b. b || false) f
none_more p (y ∷ xs) x e f =
    let both = both_false (p y) (list_any p xs) e in
    ap (λ b. b || list_any p (xs ++ x ∷ [])) both.0 ∙ none_more p xs x both.1 f

all_more : {X : Type 0} (p : X → Bool) (xs : List X) (x : X) → list_all p xs ≡ true → p x ≡ true → list_all p (xs ++ x ∷ []) ≡ true
all_more p [] x e f = ap (λ b. b && true) f
all_more p (y ∷ xs) x e f =
    let both = both_true (p y) (list_all p xs) e in
    ap (λ b. b && list_all p (xs ++ x ∷ [])) both.0 ∙ all_more p xs x both.1 f

take_one : {X : Type 0} (xs : List X) (i : ℕ) (x : X) → i < length xs → x ≡ get_or xs i x → take (i + 1) xs ≡ take i xs ++ x ∷ []
take_one xs i x h e =
    let after : i + 1 ≡ suc i = omega arith in
    ap (λ n. take n xs) after ∙ take-suc xs i x h ∙ ap (λ y. take i xs ++ y ∷ []) (sym e)

-- none passes so far, nor this one
pub none_so_far : {X : Type 0} (p : X → Bool) (xs : List X) (i : ℕ) (x : X) → i < length xs → x ≡ get_or xs i x → list_any p (take i xs) ≡ false
    → p x ≡ false → list_any p (take (i + 1) xs) ≡ false
none_so_far p xs i x h e so_far f = ap (list_any p) (take_one xs i x h e) ∙ none_more p (take i xs) x so_far f

-- all pass so far, and this one
pub all_so_far : {X : Type 0} (p : X → Bool) (xs : List X) (i : ℕ) (x : X) → i < length xs → x ≡ get_or xs i x → list_all p (take i xs) ≡ true
    → p x ≡ true → list_all p (take (i + 1) xs) ≡ true
all_so_far p xs i x h e so_far t = ap (list_all p) (take_one xs i x h e) ∙ all_more p (take i xs) x so_far t

pub none_at_all : {X : Type 0} (p : X → Bool) (xs : List X) (i : ℕ) → length xs ≤ i → list_any p (take i xs) ≡ false → false ≡ list_any p xs
none_at_all p xs i h e = sym e ∙ ap (list_any p) (take_all i xs h)

pub all_at_all : {X : Type 0} (p : X → Bool) (xs : List X) (i : ℕ) → length xs ≤ i → list_all p (take i xs) ≡ true → true ≡ list_all p xs
all_at_all p xs i h e = sym e ∙ ap (list_all p) (take_all i xs h)
