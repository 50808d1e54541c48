-- Steps over a text: what one step does of all.
use Rattle.std.proofs.Common.{◌≡◌, ℕ, zero, suc, ◌-◌, List, [], ◌∷◌, ◌++◌, length, drop, Some, None, Ok, Err, refl, ap, ◌∙◌}
use Rattle.plain_xml.specs.declared.failure.Fault.{Fault}
use Rattle.plain_xml.specs.Faults.{Stepped, and_on, steps_from, steps}
use Rattle.plain_xml.proofs.Tools.{drop_front}

-- a step takes the first character at least, and leaves an end of the text
abbrev pub Takes : {S : Type 0} → (S → List ℕ → Stepped S) → Type 0
Takes {S} step = (s next : S) (c : ℕ) (cs rest : List ℕ) → step s (c ∷ cs) ≡ Ok (Some (next, rest)) → (front : List ℕ) × (cs ≡ front ++ rest)

steps_from-drop : {S : Type 0} (step : S → List ℕ → Stepped S) (k : ℕ) (s : S) (xs : List ℕ) → steps_from step k s xs ≡ steps step s (drop k xs)
unfolding steps_from
steps_from-drop step zero s xs = refl
steps_from-drop step (suc k) s [] = refl
steps_from-drop step (suc k) s (c ∷ cs) = steps_from-drop step k s cs

-- a step that goes on
pub steps_on : {S : Type 0} (step : S → List ℕ → Stepped S) (s next : S) (c : ℕ) (cs rest : List ℕ) → Takes step
    → step s (c ∷ cs) ≡ Ok (Some (next, rest)) → steps step s (c ∷ cs) ≡ steps step next rest
unfolding steps_from
steps_on {S} step s next c cs rest takes e =
    let f = takes s next c cs rest e in
    let d : drop (length cs - length rest) cs ≡ rest = rw f.1 (drop_front f.0 rest) in
    ap (λ (r : Stepped S). and_on r (λ n t. steps_from step (length cs - length t) n cs) (Ok (s, c ∷ cs))) e
    ∙ steps_from-drop step (length cs - length rest) next cs ∙ ap (steps step next) d

-- one that stops
pub steps_stop : {S : Type 0} (step : S → List ℕ → Stepped S) (s : S) (c : ℕ) (cs : List ℕ) → step s (c ∷ cs) ≡ Ok None → steps step s (c ∷ cs) ≡ Ok (s, c ∷ cs)
unfolding steps_from
steps_stop {S} step s c cs e = ap (λ (r : Stepped S). and_on r (λ n t. steps_from step (length cs - length t) n cs) (Ok (s, c ∷ cs))) e

-- one that fails
pub steps_fail : {S : Type 0} (step : S → List ℕ → Stepped S) (s : S) (c : ℕ) (cs : List ℕ) (f : Fault) → step s (c ∷ cs) ≡ Err f
    → steps step s (c ∷ cs) ≡ Err f
unfolding steps_from
steps_fail {S} step s c cs f e = ap (λ (r : Stepped S). and_on r (λ n t. steps_from step (length cs - length t) n cs) (Ok (s, c ∷ cs))) e

pub steps_end : {S : Type 0} (step : S → List ℕ → Stepped S) (s : S) → steps step s [] ≡ Ok (s, [])
unfolding steps_from
steps_end step s = refl
