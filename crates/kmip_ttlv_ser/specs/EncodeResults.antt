-- What the calls that encode values return.
use Rattle.std.specs.Prelude.{◌≡◌, ℕ, Bool, true, false, List, ◌++◌, length, Option, Some, None, Result, Ok, Err}
use Rattle.std.specs.Prelude.{IsErrAnd}
use Rattle.std.specs.declared.vec.Vec.{Vec}
use Rattle.kmip_ttlv_types.specs.Held.{Held, Gets, GetsFront}
use Rattle.kmip_ttlv_types.specs.Trees.{Tree, bytes_all}
use Rattle.kmip_ttlv_base.specs.declared.error.Error.{Error}
use Rattle.kmip_ttlv_base.specs.declared.error.MalformedTtlvError.TheVariants.{UnknownStructureLength}
use Rattle.kmip_ttlv_base.specs.Errors.{Kind, io_error, exceeds_limit, malformed, mismatch, out_of_memory}
use Rattle.kmip_ttlv_base.specs.Errors.{length_overflow, Location, unknown, only_offset, kind_of, view_of_kind}
use Rattle.kmip_ttlv_base.specs.Errors.{location_of, view_of_location}
use Rattle.kmip_ttlv_base.specs.Values.{Value}
use Rattle.kmip_ttlv_ser.specs.declared.pending.PendingTag.TheVariants.{Nothing}
use Rattle.kmip_ttlv_ser.specs.declared.pending.Place.{Place}
use Rattle.kmip_ttlv_ser.specs.declared.serializer.TtlvSerializer.{TtlvSerializer}
use Rattle.kmip_ttlv_ser.specs.WrittenItems.{items}
use Rattle.kmip_ttlv_ser.specs.Sizes.{FitsAfter}
use Rattle.kmip_ttlv_ser.specs.Faults.{fault, opened_after}
use Rattle.kmip_ttlv_ser.specs.Lengths.{IsLong}

-- nothing is written yet
abbrev pub origin : Place
origin = record { offset = 0; opened = false }

-- the value's items, which fit after the bytes before, are written as these bytes
pub record IsWrittenAs (v : Value) (n : ℕ) (bytes : List ℕ) : Type 0 where
  pub trees : List Tree
  pub are : items v Nothing ≡ Some trees
  pub fit : FitsAfter n trees
  pub bytes_are : bytes ≡ bytes_all trees

-- some length is too long: the items don't fit, or, if there are none, IsLong
abbrev pub IsTooLongFor : Value → Place → Option (List Tree) → Type 0
IsTooLongFor v p None = IsLong v p
IsTooLongFor v p (Some ts) = ¬ (FitsAfter p.offset ts)

-- what LengthOverflow means for a value at a place
abbrev pub IsTooLong : Value → Place → Type 0
IsTooLong v p = IsTooLongFor v p (items v Nothing)

-- the value has no items, and this is its first error
pub record IsFirstError (v : Value) (p : Place) (kind : Kind) (location : Location) : Type 0 where
  pub no_items : items v Nothing ≡ None
  pub kind_is : kind ≡ (fault v Nothing p).kind
  pub location_is : location ≡ only_offset (fault v Nothing p).offset

-- why a value can't be encoded at a place
abbrev pub FailsAs : Value → Place → Kind → Location → Type 0
FailsAs v p out_of_memory location = location ≡ unknown
FailsAs v p length_overflow location = (location ≡ unknown) × IsTooLong v p
FailsAs v p (malformed e) location = IsFirstError v p (malformed e) location
FailsAs v p (mismatch e) location = IsFirstError v p (mismatch e) location
FailsAs v p (io_error e) location = ⊥
FailsAs v p (exceeds_limit n) location = ⊥

-- the same, by an error
abbrev pub Fails : {A : Type 0} → Value → Place → Error A → Type 0
Fails v p e = FailsAs v p (view_of_kind (kind_of e)) (view_of_location (location_of e))

-- what `to_vec` returns
abbrev pub Encodes : {A : Type 0} → Value → Result (Vec ℕ A) (Error A) → Type 0
Encodes v (Ok out) = IsWrittenAs v 0 out.items
Encodes v (Err e) = Fails v origin e

-- this is true of the value's bytes, from the first one on
pub record WrittenBytes (v : Value) (said : List ℕ → Type 0) : Type 0 where
  pub bytes : List ℕ
  pub written : IsWrittenAs v 0 bytes
  pub appends : said bytes

-- a writer got the value's bytes
abbrev pub WrittenTo : Value → Held → Held → Type 0
WrittenTo v old new = WrittenBytes v (Gets old new)

-- a writer failed after a beginning of the value's bytes, and has no room for all of them, if that is known
abbrev pub PartlyWritten : Value → Held → Held → Type 0
PartlyWritten v old new = WrittenBytes v (GetsFront old new)

-- why a value wasn't written to a writer: it failed, or has what it had before
abbrev pub IsNotWritten : Value → Held → Held → Kind → Location → Type 0
IsNotWritten v old new (io_error e) location = (location ≡ unknown) × PartlyWritten v old new
IsNotWritten v old new kind location = FailsAs v origin kind location × (new ≡ old)

-- what `to_writer` returns, and what the writer has then
abbrev pub EncodesTo : {R A : Type 0} → Value → Held → Held → Result R (Error A) → Type 0
EncodesTo v old new (Ok x) = WrittenTo v old new
EncodesTo v old new (Err e) = IsNotWritten v old new (view_of_kind (kind_of e)) (view_of_location (location_of e))

-- what a serializer got so far: the bytes of the calls that succeeded, whether the last field written is a
-- structure's length, and whether a call failed
pub record Progress : Type 0 where
  pub bytes : List ℕ
  pub opened : Bool
  pub refused : Bool

-- the same, of the code's own state
abbrev pub progress : {A : Type 0} → TtlvSerializer A → Progress
progress s = record { bytes = s.out.items; opened = s.opened; refused = s.refused }

-- the place that a serializer has reached
abbrev pub place_reached : Progress → Place
place_reached s = record { offset = length s.bytes; opened = s.opened }

-- the value's items were appended, and opened says whether the last field written is a structure's length
pub record AppendedTo (v : Value) (opened : Bool) (old new : List ℕ) (opened_then : Bool) : Type 0 where
  pub trees : List Tree
  pub are : items v Nothing ≡ Some trees
  pub fit : FitsAfter (length old) trees
  pub bytes_are : new ≡ old ++ bytes_all trees
  pub opened_is : opened_then ≡ opened_after opened trees

-- what appending a value to bytes returns; an error leaves them as they were
abbrev pub AppendsValue : {A : Type 0} → Value → Bool → List ℕ → List ℕ → Result Bool (Error A) → Type 0
AppendsValue v opened old new (Ok then) = AppendedTo v opened old new then
AppendsValue v opened old new (Err e) = Fails v record { offset = length old; opened = opened } e × (new ≡ old)

-- the error after a call that failed
pub record IsClosed {A : Type 0} (e : Error A) : Type 0 where
  pub kind : view_of_kind (kind_of e) ≡ malformed UnknownStructureLength
  pub location : view_of_location (location_of e) ≡ unknown

-- the value's items were appended
pub record Appended (v : Value) (old new : Progress) : Type 0 where
  pub trees : List Tree
  pub are : items v Nothing ≡ Some trees
  pub fit : FitsAfter (length old.bytes) trees
  pub appended :
      new ≡ record { bytes = old.bytes ++ bytes_all trees; opened = opened_after old.opened trees; refused = false }

-- the value has an error at the place reached, and the earlier bytes stay
pub record Invalid {A : Type 0} (v : Value) (old new : Progress) (e : Error A) : Type 0 where
  pub why : Fails v (place_reached old) e
  pub bytes_stay : new.bytes ≡ old.bytes
  pub closed : new.refused ≡ true

-- what a serializer returns if a call failed before: that error, and it stays as it is
pub record AnswersClosed {R A : Type 0} (old new : Progress) (r : Result R (Error A)) : Type 0 where
  pub refuses : IsErrAnd r IsClosed
  pub stays : new ≡ old

-- what `serialize` returns if no call failed before
abbrev pub AppendsItems : {R A : Type 0} → Value → Progress → Progress → Result R (Error A) → Type 0
AppendsItems v old new (Ok x) = Appended v old new
AppendsItems v old new (Err e) = Invalid v old new e

-- what `serialize` returns, and what the serializer has then
abbrev pub Serializes : {R A : Type 0} → Value → Progress → Progress → Result R (Error A) → Type 0
Serializes v old new r = elim old.refused [ true ↦ AnswersClosed old new r | false ↦ AppendsItems v old new r ]

-- what `into_vec` returns: all bytes, unless a call failed
abbrev pub GivesAll : {A : Type 0} → Progress → Result (Vec ℕ A) (Error A) → Type 0
GivesAll s (Ok out) = (s.refused ≡ false) × (out.items ≡ s.bytes)
GivesAll s (Err e) = (s.refused ≡ true) × IsClosed e
