-- What trying whether a text begins with a message returns.
use Rattle.std.specs.Prelude.{◌≡◌, ◌⊎◌, ℕ, ◌+◌, ◌-◌, ◌≤◌, ◌<◌, List, length, drop, Option, Some, None}
use Rattle.ttlv_captures.specs.declared.attempt.Tried.{Tried}
use Rattle.ttlv_captures.specs.declared.attempt.Tried.TheVariants.{Stands as Succeeds, Fails}
use Rattle.ttlv_captures.specs.declared.attempt.Written.{Written}
use Rattle.ttlv_captures.specs.declared.notation.Notation.{Notation}
use Rattle.ttlv_captures.specs.declared.reach.Reached.{Reached}
use Rattle.ttlv_captures.specs.Captures.{Stands, NoneIn, NoneHere, NoneBetween, cost_in, cost, costs}

-- a text begins with this message, so written
pub record IsWritten {A : Type 0} (s : List ℕ) (w : Written A) : Type 0 where
  pub stands : Stands w.notation s w.message.items w.taken
  pub some : 0 < w.taken
  pub within : w.taken ≤ length s

-- it does in one notation, or doesn't, after so many characters were read
abbrev pub Attempted : {A : Type 0} → Notation → List ℕ → Tried A → Type 0
Attempted n s (Succeeds w) = IsWritten s w
Attempted n s (Fails read) = NoneIn n s × (read ≡ cost_in n s)

-- the same, where that is taken off the rest of what may be read in vain
abbrev pub AttemptedIn : {A : Type 0} → Notation → List ℕ → ℕ → ℕ → Option (Written A) → Type 0
AttemptedIn n s old new (Some w) = IsWritten s w × (new ≡ old)
AttemptedIn n s old new None = NoneIn n s × (new ≡ old - cost_in n s)

-- in any notation
abbrev pub AttemptedHere : {A : Type 0} → List ℕ → ℕ → ℕ → Option (Written A) → Type 0
AttemptedHere s old new (Some w) = IsWritten s w × (new ≤ old) × (old - cost s ≤ new)
AttemptedHere s old new None = NoneHere s × (new ≡ old - cost s)

-- where the next message is, behind which the search goes on; or that the text ends, or no more may be read in vain
abbrev pub EndsAt : {A : Type 0} → List ℕ → Reached A → Option (Written A) → Type 0
EndsAt s r (Some w) = IsWritten (drop r.offset s) w × (r.behind ≡ r.offset + w.taken)
EndsAt s r None = ((r.offset ≡ length s) ⊎ (r.rest ≡ 0)) × (r.behind ≡ r.offset)

-- no message begins from an offset up to another, and what was read in vain was taken off the rest
pub record Reaches {A : Type 0} (s : List ℕ) (from rest : ℕ) (r : Reached A) : Type 0 where
  pub onward : from ≤ r.offset
  pub further : r.offset ≤ r.behind
  pub within : r.behind ≤ length s
  pub none : NoneBetween s from r.offset
  pub spends : r.rest ≤ rest - costs (drop from s) (r.offset - from)
  pub spent : rest ≤ r.rest + costs (drop from s) (r.behind - from)
  pub ends : EndsAt s r r.found
