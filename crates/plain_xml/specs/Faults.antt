-- Reading from left to right, with the first fault that is met.
use Rattle.std.specs.Prelude.{◌≡◌, ℕ, zero, suc, ◌-◌, List, [], ◌∷◌, length, Option, Some, None, Result, Ok, Err}
use Rattle.plain_xml.specs.declared.failure.Flaw.{Flaw}
use Rattle.plain_xml.specs.declared.failure.Flaw.TheVariants.{Unfinished}
use Rattle.plain_xml.specs.declared.failure.Fault.{Fault}
use Rattle.plain_xml.specs.declared.failure.Stop.{Stop}
use Rattle.plain_xml.specs.declared.failure.Stop.TheVariants.{NoMemory, At}

infixl 10 ◌>>=◌
abbrev pub ◌>>=◌ : {A B : Type 0} → Result A Fault → (A → Result B Fault) → Result B Fault
(Ok x) >>= f = f x
(Err e) >>= f = Err e

-- what a call returned, seen by view, is what reading gives, out of memory aside
abbrev pub Fails : {Y : Type 0} → Stop → Result Y Fault → Type 0
Fails NoMemory read = Unit {0}
Fails (At fault) read = read ≡ Err fault

abbrev pub Gives : {X Y : Type 0} → (X → Y) → Result X Stop → Result Y Fault → Type 0
Gives view (Ok x) read = read ≡ Ok (view x)
Gives view (Err e) read = Fails e read

-- a flaw where the rest of the text begins; at its end the text is unfinished
abbrev pub fault_at : Flaw → List ℕ → Fault
fault_at flaw [] = record { flaw = Unfinished; left = 0 }
fault_at flaw (c ∷ cs) = record { flaw = flaw; left = length (c ∷ cs) }

abbrev pub fails : {A : Type 0} → Flaw → List ℕ → Result A Fault
fails flaw rest = Err (fault_at flaw rest)

-- what one step made of a state and a text, or that it stops there
abbrev pub Stepped : Type 0 → Type 0
Stepped S = Result (Option (S × List ℕ)) Fault

-- a step, and what is done with it
abbrev pub and_on : {S : Type 0} → Stepped S → (S → List ℕ → Result (S × List ℕ) Fault) → Result (S × List ℕ) Fault → Result (S × List ℕ) Fault
and_on (Ok (Some x)) on there = on x.0 x.1
and_on (Ok None) on there = there
and_on (Err e) on there = Err e

-- steps until one stops or the text ends: the state, and what is left of the text. So many characters are passed first, which a step read.
unfoldable pub steps_from : {S : Type 0} → (S → List ℕ → Stepped S) → ℕ → S → List ℕ → Result (S × List ℕ) Fault
steps_from step k s [] = Ok (s, [])
steps_from step (suc k) s (c ∷ cs) = steps_from step k s cs
steps_from step zero s (c ∷ cs) =
    and_on (step s (c ∷ cs)) (λ next rest. steps_from step (length cs - length rest) next cs) (Ok (s, c ∷ cs))

abbrev pub steps : {S : Type 0} → (S → List ℕ → Stepped S) → S → List ℕ → Result (S × List ℕ) Fault
steps step s text = steps_from step 0 s text
