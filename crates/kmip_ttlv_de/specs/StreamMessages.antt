-- Messages at the front of a stream: which bytes are read, and what is returned.
use Rattle.std.specs.Prelude.{◌≡◌, ℕ, ◌+◌, ◌<◌, ◌≤◌, ◌⊎◌, Bool, true, false, List, [], length, take, drop, Option, Some, None}
use Rattle.std.specs.Prelude.{IfSome, IfErr, IfOk, Result, Ok, Err}
use Rattle.std.specs.Io.KnownBytes.{Consumes}
use Rattle.std.specs.declared.io.Error.{Error as IoFault}
use Rattle.kmip_ttlv_types.specs.declared.typ.TtlvType.{TtlvType}
use Rattle.kmip_ttlv_types.specs.ItemTypes.{type_of, is_structure}
use Rattle.kmip_ttlv_types.specs.Places.{tag_at, code_at, length_at}
use Rattle.kmip_ttlv_types.specs.Streams.{ConsumesUpTo, Lacks}
use Rattle.kmip_ttlv_base.specs.declared.error.Error.{Error}
use Rattle.kmip_ttlv_base.specs.declared.error.ErrorKind.TheVariants as kinds
use Rattle.kmip_ttlv_base.specs.declared.error.MalformedTtlvError.TheVariants as malformeds
use Rattle.kmip_ttlv_base.specs.Errors.{Kind, Location, unknown, exceeds_limit, malformed, kind_of}
use Rattle.kmip_ttlv_base.specs.Errors.{view_of_kind, location_of}
use Rattle.kmip_ttlv_base.specs.Errors.{view_of_location, IsMemory}
use Rattle.kmip_ttlv_base.specs.Values.{Value}
use Rattle.kmip_ttlv_base.specs.Forms.{Form}
use Rattle.kmip_ttlv_reader.specs.Reads.{Begins}
use Rattle.kmip_ttlv_reader.specs.Steps.{Fault}
use Rattle.kmip_ttlv_reader.specs.Outcomes.{root_outcome}
use Rattle.kmip_ttlv_reader.specs.ReadResults.{IsReadAs, IsFault, ErrorStands, end_fault, early_end, sort_of}
use Rattle.kmip_ttlv_reader.specs.Wholes.{BeginsWhole}

-- what `from_slice` returns of these bytes
pub record SliceResult {T A : Type 0} (s : Form) (is_value : Value → T → Type 0) (bytes : List ℕ) (r : Result T (Error A))
    : Type 0 where
  pub equals : IsReadAs is_value (root_outcome s bytes) r
  pub found : IfOk r (λ x. (v : Value) × Begins s bytes v × is_value v x)
  pub refused : IfErr r (λ e. ErrorStands s bytes e)
  pub whole : IfErr r (λ e. BeginsWhole bytes → sort_of e ≡ early_end → ⊥)

-- how many bytes the message with this header has: eight, and as many as the header states
abbrev pub message_size : List ℕ → ℕ
message_size bytes = 8 + length_at bytes 0

-- no limit is below n
abbrev pub Allows : Option ℕ → ℕ → Type 0
Allows limit n = IfSome limit (λ most. n ≤ most)

-- a limit is below n
abbrev pub Forbids : Option ℕ → ℕ → Type 0
Forbids None n = ⊥
Forbids (Some most) n = most < n

-- n bytes are read of a message of this type and size: all of it, if its type is known and the limit allows it
abbrev pub IsTakenUpTo : Option TtlvType → Option ℕ → ℕ → ℕ → Type 0
IsTakenUpTo None limit size n = ⊥
IsTakenUpTo (Some t) limit size n = Allows limit size × (n ≡ size)

-- n bytes are read of the message with this header
abbrev pub HasSize : Option ℕ → List ℕ → ℕ → Type 0
HasSize limit bytes n = IsTakenUpTo (type_of (code_at bytes 0)) limit (message_size bytes) n

-- the place after the header, with its tag and type
abbrev pub behind_header : List ℕ → TtlvType → Location
behind_header bytes t = record { offset = Some 8; parents = []; tag = Some (tag_at bytes 0); typ = Some t }

-- the place after the tag, where the type's code is
abbrev pub behind_tag : List ℕ → Location
behind_tag bytes = record { offset = Some 3; parents = []; tag = Some (tag_at bytes 0); typ = None }

-- the error kind for a header whose code is no type's
abbrev pub untyped_kind : List ℕ → Kind
untyped_kind bytes = malformed (malformeds.InvalidType (code_at bytes 0))

-- the header's code is no type's, and this is the error for it, after the tag
pub record IsUntyped {A : Type 0} (bytes : List ℕ) (e : Error A) : Type 0 where
  pub typ : type_of (code_at bytes 0) ≡ None
  pub kind : view_of_kind (kind_of e) ≡ untyped_kind bytes
  pub place : view_of_location (location_of e) ≡ behind_tag bytes

-- the message with this header is larger than the limit, and this is the error for it
pub record IsOver {A : Type 0} (limit : Option ℕ) (bytes : List ℕ) (e : Error A) : Type 0 where
  pub typ : TtlvType
  pub is_typ : type_of (code_at bytes 0) ≡ Some typ
  pub over : Forbids limit (message_size bytes)
  pub kind : kind_of e ≡ kinds.ResponseSizeExceedsLimit (message_size bytes)
  pub place : view_of_location (location_of e) ≡ behind_header bytes typ

-- an IoError of this fault, at an unknown place
pub record IsIoFault {A : Type 0} (fault : IoFault) (e : Error A) : Type 0 where
  pub kind : kind_of e ≡ kinds.IoError fault
  pub place : view_of_location (location_of e) ≡ unknown

-- memory ran out; or the stream ended within the next n bytes, or reading it failed, if it can
pub data LackCause {A : Type 0} (can_fail : Bool) (old : Option (List ℕ)) (n : ℕ) (e : Error A)
    : Type 0 where
  no_memory : IsMemory e → LackCause can_fail old n e
  no_bytes : (fault : IoFault) → IsIoFault fault e → Lacks can_fail old n fault → LackCause can_fail old n e

-- n bytes are due, and didn't come: at most so many were read
pub record LacksBytes {A : Type 0} (can_fail : Bool) (old new : Option (List ℕ)) (n : ℕ) (e : Error A)
    : Type 0 where
  pub due : 0 < n
  pub within : ConsumesUpTo old new n
  pub cause : LackCause can_fail old n e

-- why no more than the header is read of the message with this header
abbrev pub FailsAtHeader : {A : Type 0} → Option ℕ → List ℕ → Error A → Type 0
FailsAtHeader limit head e = IsUntyped head e ⊎ IsOver limit head e

-- the bytes of one message were read
pub record Arrives (limit : Option ℕ) (old new : Option (List ℕ)) (message : List ℕ) : Type 0 where
  pub consumes : Consumes old new message
  pub size : HasSize limit message (length message)

-- the kept buffer, if there is one, holds these bytes
abbrev pub IsInBuffer : Option (List ℕ) → List ℕ → Type 0
IsInBuffer reused bytes = IfSome reused (λ b. b ≡ bytes)

-- a header was read, of a message that is larger than the limit
pub record ArrivesOver {A : Type 0} (limit : Option ℕ) (old new : Option (List ℕ)) (head : List ℕ) (e : Error A)
    : Type 0 where
  pub consumes : Consumes old new head
  pub length_is : length head ≡ 8
  pub over : IsOver limit head e

-- a header was read whose code is no type's
pub record ArrivesUntyped {A : Type 0} (old new : Option (List ℕ)) (head : List ℕ) (e : Error A) : Type 0 where
  pub consumes : Consumes old new head
  pub length_is : length head ≡ 8
  pub untyped : IsUntyped head e

-- why there is no message: its header didn't come; the header's code is no type's; the message is larger than the
-- limit; its body didn't come
pub data FailsToArrive {A : Type 0} (can_fail : Bool) (limit : Option ℕ) (old new reused : Option (List ℕ)) (e : Error A)
    : Type 0 where
  in_header : LacksBytes can_fail old new 8 e → FailsToArrive can_fail limit old new reused e
  of_no_type : (head : List ℕ) → ArrivesUntyped old new head e → IsInBuffer reused head → FailsToArrive can_fail limit old new reused e
  over_limit : (head : List ℕ) → ArrivesOver limit old new head e → IsInBuffer reused head → FailsToArrive can_fail limit old new reused e
  in_body : (head : List ℕ) (mid : Option (List ℕ)) (n : ℕ) → Consumes old mid head → length head ≡ 8
      → HasSize limit head (8 + n) → LacksBytes can_fail mid new n e → FailsToArrive can_fail limit old new reused e

-- a message was read, and is kept if there is a buffer; this is returned for its bytes
pub record Gives {T A : Type 0} (answers : List ℕ → Result T (Error A) → Type 0) (limit : Option ℕ)
    (old new reused : Option (List ℕ)) (r : Result T (Error A)) : Type 0 where
  pub message : List ℕ
  pub comes : Arrives limit old new message
  pub is_in_buffer : IsInBuffer reused message
  pub answer : answers message r

-- a message was read, and this is returned for its bytes; or there is none
abbrev pub Ends : {T A : Type 0} → (List ℕ → Result T (Error A) → Type 0) → Bool → Option ℕ
    → (old new reused : Option (List ℕ)) → Result T (Error A) → Type 0
Ends answers can_fail limit old new reused (Ok x) = Gives answers limit old new reused (Ok x)
Ends answers can_fail limit old new reused (Err e) =
    Gives answers limit old new reused (Err e) ⊎ FailsToArrive can_fail limit old new reused e

-- whether this code is a Structure's
abbrev pub is_code_of_structure : Option TtlvType → Bool
is_code_of_structure None = false
is_code_of_structure (Some t) = is_structure t

-- whether the header is a Structure's
abbrev pub heads_structure : List ℕ → Bool
heads_structure bytes = is_code_of_structure (type_of (code_at bytes 0))

-- all bytes of one message were read, and nothing else
pub record IsTaken (limit : Option ℕ) (old new : Option (List ℕ)) : Type 0 where
  pub message : List ℕ
  pub comes : Arrives limit old new message
  pub is_structure : heads_structure message ≡ true

-- an item was read that is no Structure, behind which padding may stand
pub record TakesOther (limit : Option ℕ) (old new : Option (List ℕ)) : Type 0 where
  pub item : List ℕ
  pub comes : Arrives limit old new item
  pub is_other : heads_structure item ≡ false

-- where a read leaves the reader: between two messages, as all of one was read; or elsewhere, and then the error is that there is no message,
-- or the item that was read is no Structure
abbrev pub Leaves : {T A : Type 0} → Bool → Option ℕ → (old new reused : Option (List ℕ)) → Bool → Result T (Error A) → Type 0
Leaves can_fail limit old new reused true r = IsTaken limit old new
Leaves can_fail limit old new reused false (Ok x) = ⊥
Leaves can_fail limit old new reused false (Err e) =
    FailsToArrive can_fail limit old new reused e ⊎ TakesOther limit old new

-- if this is an error by size, a header was read that states this size, above the limit
abbrev pub IsBySize : {A : Type 0} → Option ℕ → (old new : Option (List ℕ)) → Error A → Type 0
IsBySize limit old new e = (n : ℕ) → view_of_kind (kind_of e) ≡ exceeds_limit n
    → (head : List ℕ) × ArrivesOver limit old new head e × (n ≡ message_size head)

-- out of memory, or else this
abbrev pub OrMemory : {T A : Type 0} → Result T (Error A) → Type 0 → Type 0
OrMemory (Ok x) P = P
OrMemory (Err e) P = IsMemory e ⊎ P

-- the first n bytes are read and kept
pub record TakesFirst (bytes : List ℕ) (n : ℕ) (new reused : Option (List ℕ)) : Type 0 where
  pub left : new ≡ Some (drop n bytes)
  pub is_in_buffer : IsInBuffer reused (take n bytes)

-- the error for a size above the limit, after the header
abbrev pub size_fault : List ℕ → TtlvType → Fault
size_fault bytes t = record { why = exceeds_limit (message_size bytes); place = behind_header bytes t }

-- the error for a code that is no type's, after the tag
abbrev pub type_fault : List ℕ → Fault
type_fault bytes = record { why = untyped_kind bytes; place = behind_tag bytes }

-- the result of reading a message from these bytes, by what they begin with; in place of each result, memory may
-- run out
pub record Exactly {T A : Type 0} (answers : List ℕ → Result T (Error A) → Type 0) (limit : Option ℕ) (bytes : List ℕ)
    (new reused : Option (List ℕ)) (r : Result T (Error A)) : Type 0 where
  -- the header is cut
  pub in_header : length bytes < 8 → IsFault end_fault r
  -- the code is no type's, whatever form and limit are
  pub untyped : 8 ≤ length bytes → type_of (code_at bytes 0) ≡ None
      → IsFault (type_fault bytes) r × OrMemory r (TakesFirst bytes 8 new reused)
  -- the size is above the limit
  pub over_limit : 8 ≤ length bytes → (t : TtlvType) → type_of (code_at bytes 0) ≡ Some t
      → Forbids limit (message_size bytes) → IsFault (size_fault bytes t) r × OrMemory r (TakesFirst bytes 8 new reused)
  -- the body is cut
  pub in_body : 8 ≤ length bytes → (n : ℕ) → HasSize limit bytes n → length bytes < n → IsFault end_fault r
  -- the message is there
  pub whole : 8 ≤ length bytes → (n : ℕ) → HasSize limit bytes n → n ≤ length bytes
      → OrMemory r (TakesFirst bytes n new reused × answers (take n bytes) r)
