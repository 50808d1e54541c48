-- Where objects go in their life, by what is done to them (KMIP 1.0, section 3.17).
use Rattle.std.specs.Prelude.{◌≡◌, ℕ, ℤ, Option, Some, None, Result, Ok, Err, MatchOption}
use Rattle.std.specs.declared.vec.Vec.{Vec}
use Rattle.kmip_memory_store.specs.declared.object.Dates.{Dates}
use Rattle.kmip_memory_store.specs.declared.object.Denied.{Denied}
use Rattle.kmip_memory_store.specs.declared.object.Denied.TheVariants.{WrongState}
use Rattle.kmip_memory_store.specs.declared.object.Object.{Object}
use Rattle.kmip_memory_store.specs.declared.object.State.{State}
use Rattle.kmip_memory_store.specs.declared.object.State.TheVariants.{PreActive, Active, Deactivated, Compromised, Destroyed, DestroyedCompromised}
use Rattle.kmip_memory_store.specs.declared.object.Step.{Step}
use Rattle.kmip_memory_store.specs.declared.object.Step.TheVariants.{Activate, Deactivate, Compromise, Destroy}

-- the number of a state in a message
abbrev pub state_number : State → ℕ
state_number PreActive = 1
state_number Active = 2
state_number Deactivated = 3
state_number Compromised = 4
state_number Destroyed = 5
state_number DestroyedCompromised = 6

-- the state that a step leads to, if it is allowed in this one
abbrev pub next : Step → State → Option State
next Activate PreActive = Some Active
next Activate _ = None
next Deactivate Active = Some Deactivated
next Deactivate _ = None
next Compromise PreActive = Some Compromised
next Compromise Active = Some Compromised
next Compromise Deactivated = Some Compromised
next Compromise Destroyed = Some DestroyedCompromised
next Compromise _ = None
next Destroy PreActive = Some Destroyed
next Destroy Deactivated = Some Destroyed
next Destroy Compromised = Some DestroyedCompromised
next Destroy _ = None

-- the dates of an object that came now
abbrev pub born : ℤ → Dates
born now = record { initial = now; activation = None; deactivation = None; compromise = None; destroy = None; last_change = now }

-- an object that came now, with this material
abbrev pub object_born : {T A : Type 0} → T → Vec ℕ A → ℤ → Object T A
object_born about material now = record { about = about; material = Some material; state = PreActive; dates = born now }

-- dates after a step that is taken now
abbrev pub dated : Step → ℤ → Dates → Dates
dated Activate now d = record d { activation = Some now; last_change = now }
dated Deactivate now d = record d { deactivation = Some now; last_change = now }
dated Compromise now d = record d { compromise = Some now; last_change = now }
dated Destroy now d = record d { destroy = Some now; last_change = now }

-- material after a step: it is gone after Destroy
abbrev pub left_of : {M : Type 0} → Step → Option M → Option M
left_of Activate material = material
left_of Deactivate material = material
left_of Compromise material = material
left_of Destroy material = None

-- an object after a step that is taken now, and leads to this state
abbrev pub taken : {T A : Type 0} → Step → ℤ → State → Object T A → Object T A
taken step now s o = record o { material = left_of step o.material; state = s; dates = dated step now o.dates }

-- an object takes a step now, if its state allows that; otherwise nothing changes
abbrev pub Takes : {T A : Type 0} → Step → ℤ → Object T A → Result (Unit {0}) Denied → Object T A → Type 0
Takes step now old r new =
    MatchOption (next step old.state) ((r ≡ Err WrongState) × (new ≡ old)) (λ s. (r ≡ Ok tt) × (new ≡ taken step now s old))
