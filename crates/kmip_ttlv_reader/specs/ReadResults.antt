-- What `from_slice` returns, against what the bytes are read as, and what an error says of bytes that go on.
use Rattle.std.specs.Prelude.{◌≡◌, ◌⊎◌, ℕ, List, ◌++◌, Result, Ok, Err}
use Rattle.std.specs.declared.io.ErrorKind.TheVariants.{UnexpectedEof}
use Rattle.kmip_ttlv_base.specs.declared.error.Error.{Error}
use Rattle.kmip_ttlv_base.specs.Errors.{Kind, io_error, malformed, mismatch, out_of_memory, unknown, IsMemory}
use Rattle.kmip_ttlv_base.specs.Errors.{view_of_kind, view_of_location, kind_of, location_of}
use Rattle.kmip_ttlv_base.specs.Values.{Value}
use Rattle.kmip_ttlv_base.specs.Forms.{Form}
use Rattle.kmip_ttlv_reader.specs.Reads.{Begins}
use Rattle.kmip_ttlv_reader.specs.Steps.{Fault, Outcome, gives, ends_early, fails}

-- ---- the result

-- an error's kind and place
abbrev pub seen : {A : Type 0} → Error A → Fault
seen e = record { why = view_of_kind (kind_of e); place = view_of_location (location_of e) }

-- the error of bytes that end too early, which has no place
abbrev pub end_fault : Fault
end_fault = record { why = io_error UnexpectedEof; place = unknown }

-- what is wrong with bytes: they are no TTLV, or not what the type asks for
abbrev pub IsOfBytes : Kind → Type 0
IsOfBytes (malformed m) = Unit {0}
IsOfBytes (mismatch m) = Unit {0}
IsOfBytes _ = ⊥

-- the error that an outcome is, if it is one
abbrev pub IsError : {V : Type 0} → Outcome V → Fault → Type 0
IsError (gives v) f = ⊥
IsError ends_early f = f ≡ end_fault
IsError (fails x) f = (f ≡ x) × IsOfBytes f.why

-- the result is a value for what the outcome gives, or the outcome's error, or memory ran out
abbrev pub IsReadAs : {V T A : Type 0} → (V → T → Type 0) → Outcome V → Result T (Error A) → Type 0
IsReadAs {V = V} is_value o (Ok x) = (v : V) × (o ≡ gives v) × is_value v x
IsReadAs is_value o (Err e) = IsMemory e ⊎ IsError o (seen e)

-- the result is this error, or memory ran out
abbrev pub IsFault : {T A : Type 0} → Fault → Result T (Error A) → Type 0
IsFault f (Ok x) = ⊥
IsFault f (Err e) = IsMemory e ⊎ (seen e ≡ f)

-- ---- bytes that go on

-- whether more bytes could help
pub data ErrorSort : Type 0 where
  memory : ErrorSort
  early_end : ErrorSort
  other : ErrorSort

-- what an error of this kind says
abbrev pub sort_of_kind : Kind → ErrorSort
sort_of_kind (io_error e) = early_end
sort_of_kind out_of_memory = memory
sort_of_kind _ = other

-- what an error says
abbrev pub sort_of : {A : Type 0} → Error A → ErrorSort
sort_of e = sort_of_kind (view_of_kind (kind_of e))

-- no value is read from the bytes; but for an early end, none whatever bytes follow
abbrev pub NothingBegins : Form → List ℕ → ErrorSort → Type 0
NothingBegins s bytes memory = Unit {0}
NothingBegins s bytes early_end = (v : Value) → Begins s bytes v → ⊥
NothingBegins s bytes other = (after : List ℕ) (v : Value) → Begins s (bytes ++ after) v → ⊥

-- no value is read from bytes that have such an error
abbrev pub ErrorStands : {A : Type 0} → Form → List ℕ → Error A → Type 0
ErrorStands s bytes e = NothingBegins s bytes (sort_of e)
