-- What a step of reading comes to, and how steps follow one another.
use Rattle.std.specs.Prelude.{ℕ, Bool, List, ◌∷◌, if◌then◌else◌}
use Rattle.kmip_ttlv_base.specs.Errors.{Kind, Location}
use Rattle.kmip_ttlv_reader.specs.TagValues.{TagValue}

-- what is wrong with the bytes, and where
pub record Fault : Type 0 where
  pub why : Kind
  pub place : Location

-- a result; or the bytes end too early; or something is wrong with them
pub data Outcome (A : Type 0) : Type 0 where
  gives : A → Outcome A
  ends_early : Outcome A
  fails : Fault → Outcome A

-- what was read, all stored texts, and the offset after it
pub record Read (V : Type 0) : Type 0 where
  pub value : V
  pub stored : List TagValue
  pub next : ℕ

-- a step, and then what depends on its result
infixl 10 ◌>>=◌
abbrev pub ◌>>=◌ : {A B : Type 0} → Outcome A → (A → Outcome B) → Outcome B
(gives x) >>= f = f x
ends_early >>= f = ends_early
(fails x) >>= f = fails x

-- a step, and then another
infixl 10 ◌>>◌
abbrev pub ◌>>◌ : {A B : Type 0} → Outcome A → Outcome B → Outcome B
o >> o2 = o >>= λ _. o2

-- goes on where a test holds, and is the other outcome where it doesn't
abbrev pub must : Bool → Outcome (Unit {0}) → Outcome (Unit {0})
must test o = if test then gives tt else o

-- goes on where a test doesn't hold, and is the other outcome where it does
abbrev pub must_not : Bool → Outcome (Unit {0}) → Outcome (Unit {0})
must_not test o = if test then o else gives tt

-- a fault in a structure of this tag has the tag before its other parents
abbrev pub within : {A : Type 0} → ℕ → Outcome A → Outcome A
within tag (gives x) = gives x
within tag ends_early = ends_early
within tag (fails x) = fails record x { place = record x.place { parents = tag ∷ x.place.parents } }

-- a value, the texts stored and the place after it
abbrev pub reads : {V : Type 0} → V → List TagValue → ℕ → Outcome (Read V)
reads v k q = gives record { value = v; stored = k; next = q }

-- the same with a function of the value in its place
abbrev pub mapped : {V W : Type 0} → (V → W) → Outcome (Read V) → Outcome (Read W)
mapped f o = o >>= λ r. reads (f r.value) r.stored r.next

-- What reads from a place in the bytes, within a structure that ends at another place. The innermost struct around has
-- the owner's tag; rules see the stored texts before.
abbrev pub Reader : Type 0 → Type 0
Reader V = List ℕ → (owner : ℕ) → List TagValue → (pos end : ℕ) → Outcome (Read V)
