-- Where a cursor is in a structure, and what is read from there.
use Rattle.std.specs.Prelude.{◌≡◌, ℕ, ◌≤◌, Bool, false, List, length, codes, Option, Some, None, Result, Ok, Err}
use Rattle.std.specs.Prelude.{ℤ, map, [], ◌∷◌, ◌==◌, if◌then◌else◌}
use Rattle.std.specs.Int.{Width, cast_signed, cast_unsigned}
use Rattle.kmip_ttlv_types.specs.Digits.{tag_text}
use Rattle.kmip_ttlv_base.specs.Tags.{wrapper_name}
use Rattle.kmip_ttlv_base.specs.Values.{Value, none_value, some_value, seq_value, struct_value, Values, values_of}
use Rattle.kmip_ttlv_base.specs.Forms.{Form, Fields, newtype, struct}
use Rattle.kmip_ttlv_reader.specs.declared.failure.Failure.{Failure}
use Rattle.kmip_ttlv_reader.specs.declared.scope.Scope.{Scope}
use Rattle.kmip_ttlv_reader.specs.TagValues.{TagValue}
use Rattle.kmip_ttlv_reader.specs.Steps.{Outcome, Read, Reader, reads, fails, gives, ◌>>=◌}
use Rattle.kmip_ttlv_types.specs.Places.{tag_at}
use Rattle.kmip_ttlv_reader.specs.Reads.{has_tag}
use Rattle.kmip_ttlv_reader.specs.Outcomes.{type_there, tag_wanted}
use Rattle.kmip_ttlv_reader.specs.ReadFaults.{in_struct}
use Rattle.kmip_ttlv_reader.specs.Results.{IsFailure}

-- the stored texts, and the place of the next item
pub record Spot : Type 0 where
  pub stored : List TagValue
  pub pos : ℕ

-- the place is among the bytes and in the structure
abbrev pub IsWithin : {A : Type 0} → Scope A → Spot → Type 0
IsWithin scope spot = (spot.pos ≤ scope.end) × (spot.pos ≤ length scope.bytes.now)

-- what is read from this spot in this structure
abbrev pub at : {V A : Type 0} → Reader V → Scope A → Spot → Outcome (Read V)
at read scope spot = read scope.bytes.now scope.owner spot.stored spot.pos scope.end

-- the result is that outcome, up to this spot, or memory ran out
abbrev pub IsReadTo : {X V A : Type 0} → (X → V) → Spot → Outcome (Read V) → Result X (Failure A) → Type 0
IsReadTo view spot o (Ok x) = o ≡ reads (view x) spot.stored spot.pos
IsReadTo view spot o (Err r) = IsFailure o r

-- a leaf's form within its wrapper
abbrev pub wrapped_leaf : ℕ → Form → Form
wrapped_leaf tag s = newtype (wrapper_name tag) s

-- the number that the bits of a number are: itself, where it fits
abbrev pub by_bits : Width → ℤ → ℤ
by_bits w z = cast_signed w (cast_unsigned w z)

-- a value that there may be
abbrev pub optional_value : {X : Type 0} → (X → Value) → Option X → Value
optional_value view None = none_value
optional_value view (Some x) = some_value (view x)

-- the values of a list
abbrev pub values_by : {X : Type 0} → (X → Value) → List X → Values
values_by view xs = values_of (map view xs)

-- the sequence of these values; none where there is none of them
abbrev pub optional_values : {X : Type 0} → (X → Value) → List X → Value
optional_values view [] = none_value
optional_values view (x ∷ xs) = some_value (seq_value (values_by view (x ∷ xs)))

-- the form of a structure of this tag
abbrev pub structure_form : ℕ → Fields → Bool → Form
structure_form tag fields deny = struct (tag_text tag) fields deny

-- a structure of this tag, whatever its fields are
abbrev pub IsStructureOf : ℕ → Form → Type 0
IsStructureOf tag s = (fields : Fields) × (deny : Bool) × (s ≡ structure_form tag fields deny)

-- the value of a structure of this tag
abbrev pub structure_value : {X : Type 0} → ℕ → (X → Values) → X → Value
structure_value tag values x = struct_value (tag_text tag) (values x)

-- a field that may not be absent is there: an item of this tag
abbrev pub field_there : ℕ → List ℕ → (owner pos end : ℕ) → Outcome (Unit {0})
field_there tag b o p e =
    if p == e then fails (in_struct e o (codes "missing field")) else
    (type_there b p >>= λ t. if has_tag (tag_text tag) (tag_at b p) then gives tt else tag_wanted (tag_text tag) b p t)

-- a field that may be absent is there: an item of this tag
abbrev pub optional_there : ℕ → List ℕ → (pos end : ℕ) → Outcome Bool
optional_there tag b p e =
    if p == e then gives false else (type_there b p >>= λ t. gives (has_tag (tag_text tag) (tag_at b p)))
