-- What becomes of the objects of a store: an object's identifier is its place among them.
use Rattle.std.specs.Prelude.{◌≡◌, ◌≢◌, ℕ, ℤ, List, Option, Some, None, Result, Err, MatchOption, length, option_map, slice_get}
use Rattle.kmip_memory_store.specs.declared.object.Denied.{Denied}
use Rattle.kmip_memory_store.specs.declared.object.Denied.TheVariants.{NotFound}
use Rattle.kmip_memory_store.specs.declared.object.Object.{Object}
use Rattle.kmip_memory_store.specs.declared.object.Step.{Step}
use Rattle.kmip_memory_store.specs.declared.store.Store.{Store}
use Rattle.kmip_memory_store.specs.States.{Takes}

-- all objects that ever came, in their order
abbrev pub objects_of : {T A : Type 0} → Store T A → List (Object T A)
objects_of s = s.objects.items

-- the object of an identifier, if there ever was one
abbrev pub at : {T A : Type 0} → Store T A → ℕ → Option (Object T A)
at s id = slice_get (objects_of s) id

-- any other object is there as before, and there is none that wasn't
abbrev pub SameOthers : {T A : Type 0} → ℕ → Store T A → Store T A → Type 0
SameOthers id old new = (other : ℕ) → other ≢ id → at new other ≡ at old other

-- an object came, under an identifier that none ever had
pub record Comes {T A : Type 0} (object : Object T A) (id : ℕ) (old new : Store T A) : Type 0 where
  pub is_fresh : at old id ≡ None
  pub is_there : at new id ≡ Some object
  pub others : SameOthers id old new

-- no object came, none went, and none but this one changed
pub record KeepsOthers {T A : Type 0} (id : ℕ) (old new : Store T A) : Type 0 where
  pub count : length (objects_of new) ≡ length (objects_of old)
  pub others : SameOthers id old new

-- what became of a step that was asked of the object of an identifier now: there is none, or it takes the step, or is denied it
abbrev pub Steps : {T A : Type 0} → Step → ℤ → ℕ → Store T A → Result (Unit {0}) Denied → Store T A → Type 0
Steps {T} {A} step now id old r new =
    MatchOption (at old id) ((r ≡ Err NotFound) × (objects_of new ≡ objects_of old))
    (λ before. (after : Object T A) × Takes step now before r after × (at new id ≡ Some after))

-- the object of this identifier is there, and its material is gone
abbrev pub IsGone : {T A : Type 0} → ℕ → Store T A → Type 0
IsGone id s = option_map (λ object. object.material) (at s id) ≡ Some None
