-- A store after one of its objects was written.
use Rattle.std.proofs.Common.{◌≡◌, ◌≢◌, ℕ, zero, suc, ◌<◌, List, [], ◌∷◌, length, Some, Result, get_or, slice_set, length-set}
use Rattle.std.proofs.Common.{Ok, Err, OnErr, ◌∙◌, ℤ, w64, to_z, of_z, refl, ap, subst, arith}
use Rattle.std.specs.List.{slice_get}
use Rattle.std.specs.Vec.{with_item}
use Rattle.std.proofs.lemmas.Option.{slice_get_read}
use Rattle.std.proofs.lemmas.Int.{to_z-of_z}
use Rattle.std.proofs.lemmas.List.{set-get_or}
use mir.Val.{SFits}
use Rattle.kmip_memory_store.specs.declared.object.Denied.{Denied}
use Rattle.kmip_memory_store.specs.declared.object.Object.{Object}
use Rattle.kmip_memory_store.specs.declared.store.Store.{Store}
use Rattle.kmip_memory_store.specs.declared.object.Step.{Step}
use Rattle.kmip_memory_store.specs.States.{Takes}
use Rattle.kmip_memory_store.specs.Objects.{KeepsOthers, Steps, objects_of}

-- what was written is there
pub get-set_same : {X : Type 0} → (xs : List X) (i : ℕ) (y : X) → i < length xs → slice_get (slice_set xs i y) i ≡ Some y
get-set_same [] i y h = absurd (omega arith)
get-set_same (x ∷ xs) zero y h = refl
get-set_same (x ∷ xs) (suc i) y h = get-set_same xs i y (omega arith)

-- nothing else was written
pub get-set_other : {X : Type 0} → (xs : List X) (i j : ℕ) (y : X) → j ≢ i → slice_get (slice_set xs i y) j ≡ slice_get xs j
get-set_other [] i j y n = refl
get-set_other (x ∷ xs) zero zero y n = absurd (n refl)
get-set_other (x ∷ xs) zero (suc j) y n = refl
get-set_other (x ∷ xs) (suc i) zero y n = refl
get-set_other (x ∷ xs) (suc i) (suc j) y n = get-set_other xs i j y (λ e. n (ap suc e))

-- the store whose object of this identifier is another
abbrev pub rewritten : {T A : Type 0} → Store T A → ℕ → Object T A → Store T A
rewritten s id object = record { objects = with_item s.objects id object }

pub others_kept : {T A : Type 0} → (s : Store T A) (id : ℕ) (object : Object T A) → KeepsOthers id s (rewritten s id object)
others_kept s id object =
    record { count = length-set (objects_of s) id object; others = λ other n. get-set_other (objects_of s) id other object n }

-- a step of its life that the object of an identifier took now
pub step_taken : {T A : Type 0} → (step : Step) (now : ℤ) (s : Store T A) (id : ℕ) (before after : Object T A) (r : Result (Unit {0}) Denied)
    → SFits w64 now → id < length (objects_of s) → before ≡ get_or (objects_of s) id before → Takes step (to_z w64 (of_z w64 now)) before r after
    → Steps step now id s r (rewritten s id after)
step_taken step now s id before after r fits h e takes =
    rw (slice_get_read (objects_of s) (length (objects_of s)) id before refl h e)
    (after, subst (λ z. Takes step z before r after) (to_z-of_z w64 now fits) takes, get-set_same (objects_of s) id after h)

-- an object that was denied a step: all objects are as they were
pub all_kept : {T A : Type 0} → (s : Store T A) (id : ℕ) (before after : Object T A) (r : Result (Unit {0}) Denied) → before ≡ get_or (objects_of s) id before
    → OnErr r (after ≡ before) → OnErr r (objects_of (rewritten s id after) ≡ objects_of s)
all_kept s id before after (Ok x) e same = tt
all_kept s id before after (Err d) e same =
    ap (slice_set (objects_of s) id) (same ∙ e) ∙ set-get_or (objects_of s) id before
