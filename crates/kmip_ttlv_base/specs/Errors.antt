-- Why a call fails and at which place, apart from where this is in memory.
use Rattle.std.specs.Prelude.{◌≡◌, ℕ, Bool, true, false, List, [], ◌∷◌, Option, Some, None, option_map, string_bytes}
use Rattle.std.specs.Prelude.{is_none, ◌&&◌, ◌⊎◌, ◌-◌, ◌^◌, ◌==◌, if◌then◌else◌, codes}
use Rattle.std.specs.declared.vec.Vec.{Vec}
use Rattle.std.specs.IoError.{error_kind}
use Rattle.std.specs.declared.io.ErrorKind.{ErrorKind as IoKind}
use Rattle.kmip_ttlv_types.specs.declared.typ.TtlvType.{TtlvType}
use Rattle.kmip_ttlv_types.specs.declared.field.ByteOffset.{ByteOffset}
use Rattle.kmip_ttlv_types.specs.declared.error.Error.{Error as LowError}
use Rattle.kmip_ttlv_types.specs.declared.error.Error.TheVariants as lows
use Rattle.kmip_ttlv_base.specs.declared.error.Error.{Error}
use Rattle.kmip_ttlv_base.specs.declared.error.ErrorKind.{ErrorKind}
use Rattle.kmip_ttlv_base.specs.declared.error.ErrorKind.TheVariants as kinds
use Rattle.kmip_ttlv_base.specs.declared.error.MalformedTtlvError.{MalformedTtlvError}
use Rattle.kmip_ttlv_base.specs.declared.error.MalformedTtlvError.TheVariants as malforms
use Rattle.kmip_ttlv_base.specs.declared.error.SerdeError.{SerdeError}
use Rattle.kmip_ttlv_base.specs.declared.error.SerdeError.TheVariants as serdes
use Rattle.kmip_ttlv_base.specs.declared.error.ErrorLocation.{ErrorLocation}

-- why bytes or a value don't match what a type describes, with texts as lists
pub data Mismatch : Type 0 where
  invalid_variant : (name : List ℕ) → Mismatch
  invalid_rule : (name : List ℕ) → Mismatch
  invalid_tag : (name : List ℕ) → Mismatch
  missing_identifier : Mismatch
  other_cause : (words : List ℕ) → Mismatch
  unexpected_tag : (expected actual : ℕ) → Mismatch
  unexpected_type : (expected actual : TtlvType) → Mismatch
  unsupported_rust_type : (name : List ℕ) → Mismatch

-- the kinds of errors, with texts as lists
pub data Kind : Type 0 where
  io_error : IoKind → Kind
  exceeds_limit : (size : ℕ) → Kind
  malformed : MalformedTtlvError → Kind
  mismatch : Mismatch → Kind
  out_of_memory : Kind
  length_overflow : Kind

-- the mismatch, with texts as lists
abbrev pub view_of_serde : {A : Type 0} → SerdeError A → Mismatch
view_of_serde (serdes.InvalidVariant name) = invalid_variant name.now
view_of_serde (serdes.InvalidVariantMatcherSyntax name) = invalid_rule (string_bytes name)
view_of_serde (serdes.InvalidTag name) = invalid_tag (string_bytes name)
view_of_serde serdes.MissingIdentifier = missing_identifier
view_of_serde (serdes.Other words) = other_cause (string_bytes words)
view_of_serde (serdes.UnexpectedTag expected actual) = unexpected_tag expected actual
view_of_serde (serdes.UnexpectedType expected actual) = unexpected_type expected actual
view_of_serde (serdes.UnsupportedRustType name) = unsupported_rust_type name.now

-- the kind, with texts as lists
abbrev pub view_of_kind : {A : Type 0} → ErrorKind A → Kind
view_of_kind (kinds.IoError e) = io_error (error_kind e)
view_of_kind (kinds.ResponseSizeExceedsLimit n) = exceeds_limit n
view_of_kind (kinds.MalformedTtlv e) = malformed e
view_of_kind (kinds.SerdeError e) = mismatch (view_of_serde e)
view_of_kind kinds.OutOfMemory = out_of_memory
view_of_kind kinds.LengthOverflow = length_overflow

-- a place, its parents as a list, the outermost first
pub record Location : Type 0 where
  pub offset : Option ℕ
  pub parents : List ℕ
  pub tag : Option ℕ
  pub typ : Option TtlvType

-- an unknown place
abbrev pub unknown : Location
unknown = record { offset = None; parents = []; tag = None; typ = None }

-- the tags of a vector; none if there is no vector
abbrev pub tags_of : {A : Type 0} → Option (Vec ℕ A) → List ℕ
tags_of None = []
tags_of (Some tags) = tags.items

-- the place that a location is
abbrev pub view_of_location : {A : Type 0} → ErrorLocation A → Location
view_of_location l =
    record { offset = option_map (λ o. o.0) l.offset; parents = tags_of l.parent_tags; tag = l.tag; typ = l.typ }

-- whether a list has nothing in it
abbrev pub is_empty : List ℕ → Bool
is_empty [] = true
is_empty (x ∷ xs) = false

-- whether no part of a place is known
abbrev pub is_nowhere : Location → Bool
is_nowhere l = is_none l.offset && is_empty l.parents && is_none l.tag && is_none l.typ

-- what `kind` returns
abbrev pub kind_of : {A : Type 0} → Error A → ErrorKind A
kind_of e = e.kind

-- what `location` returns
abbrev pub location_of : {A : Type 0} → Error A → ErrorLocation A
location_of e = e.location

-- out of memory, at an unknown place
pub record IsMemory {A : Type 0} (e : Error A) : Type 0 where
  pub kind : kind_of e ≡ kinds.OutOfMemory
  pub location : view_of_location (location_of e) ≡ unknown

-- an offset alone
abbrev pub only_offset : ℕ → Location
only_offset n = record { offset = Some n; parents = []; tag = None; typ = None }

-- an offset alone, or an unknown place for the greatest number of 64 bits
abbrev pub only_small_offset : ℕ → Location
only_small_offset n = if n == 2 ^ 64 - 1 then unknown else only_offset n

-- an item goes past the end that was converted from x
abbrev pub IsOverflow : {T : Type 0} → (T → ByteOffset → Type 0) → T → MalformedTtlvError → Type 0
IsOverflow converts x (malforms.Overflow o) = converts x o
IsOverflow converts x _ = ⊥

-- the text for an operation that the state machine's mode doesn't allow
abbrev pub invalid_operation : List ℕ
invalid_operation = codes "Internal error: invalid state machine operaiton"

-- the kind of a low-level error; if a text is copied, memory may run out
abbrev pub IsKindOf : {A B : Type 0} → LowError B → ErrorKind A → Type 0
IsKindOf (lows.IoError e) k = k ≡ kinds.IoError e
IsKindOf (lows.InvalidTtlvTag text) k =
    (view_of_kind k ≡ mismatch (invalid_tag (string_bytes text))) ⊎ (k ≡ kinds.OutOfMemory)
IsKindOf (lows.UnexpectedTtlvField expected actual) k =
    view_of_kind k ≡ malformed (malforms.UnexpectedTtlvField expected actual)
IsKindOf (lows.UnsupportedTtlvType code) k = view_of_kind k ≡ malformed (malforms.UnsupportedType code)
IsKindOf (lows.InvalidTtlvType code) k = view_of_kind k ≡ malformed (malforms.InvalidType code)
IsKindOf (lows.InvalidTtlvValueLength expected actual typ) k =
    view_of_kind k ≡ malformed (malforms.InvalidLength expected actual typ)
IsKindOf (lows.InvalidTtlvValue typ) k = view_of_kind k ≡ malformed (malforms.InvalidValue typ)
IsKindOf lows.InvalidStateMachineOperation k =
    (view_of_kind k ≡ mismatch (other_cause invalid_operation)) ⊎ (k ≡ kinds.OutOfMemory)
IsKindOf lows.OutOfMemory k = k ≡ kinds.OutOfMemory
IsKindOf lows.LengthOverflow k = k ≡ kinds.LengthOverflow
