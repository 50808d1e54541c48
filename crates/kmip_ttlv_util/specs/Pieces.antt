-- Texts that are sent to a writer in pieces.
use Rattle.std.specs.Prelude.{◌≡◌, ◌≤◌, ℕ, Bool, true, false, List, [], ◌++◌, length, take, Option, Result, Ok, Err, ◌⊎◌, codes}
use Rattle.std.specs.Borrow.{GName}
use Rattle.std.specs.Fmt.{decimal}
use Rattle.std.specs.Io.KnownBytes.{Appends}
use Rattle.std.specs.IoError.{error_kind}
use Rattle.std.specs.declared.io.Error.{Error as IoFault}
use Rattle.std.specs.declared.io.ErrorKind.TheVariants.{OutOfMemory}
use Rattle.kmip_ttlv_types.specs.{Held.Held, Held.Gets, Streams.AppendsFront, Streams.UsesRoom, Streams.IsTight}
use Rattle.kmip_ttlv_util.specs.declared.pieces.Pieces.{Pieces}
use Rattle.kmip_ttlv_util.specs.Waiting.{waiting}
use Rattle.kmip_ttlv_util.specs.Traces.{trace}
use Rattle.kmip_ttlv_util.specs.Diagnostics.{hostile}
use Rattle.kmip_ttlv_util.specs.PrintResults.{IsExact}
use Rattle.kmip_ttlv_util.specs.Pretty.{IsPrinted, IsPretty}

-- some text of this kind, with this property
pub record SomeText (kind said : List ℕ → Type 0) : Type 0 where
  pub text : List ℕ
  pub is : kind text
  pub holds : said text

-- a sink got a beginning of a text: each write of it was whole
pub record GetsSome (old new : Held) (text : List ℕ) : Type 0 where
  pub count : ℕ
  pub within : count ≤ length text
  pub gets : Gets old new (take count text)

-- a sink got a beginning of a text: a write failed, as there is no room for all of it, if that is known; or no write failed, and
-- memory ran out
pub record WritesFront (old new : Held) (e : IoFault) (text : List ℕ) : Type 0 where
  pub appended : AppendsFront old.pending new.pending text
  pub why : IsTight old.room (length text) ⊎ ((error_kind e ≡ OutOfMemory) × GetsSome old new text)

-- a sink got a text of this kind; on an error, a beginning of such a text
abbrev pub WritesText : {T : Type 0} → (List ℕ → Type 0) → Held → Held → Result T IoFault → Type 0
WritesText kind old new (Ok x) = SomeText kind (Gets old new)
WritesText kind old new (Err e) = SomeText kind (WritesFront old new e)

-- a buffer before a sink: which sink is lent, what it has and has room for, what is buffered, and whether a write failed
pub record Buffered : Type 0 where
  pub name : GName
  pub pending : Option (List ℕ)
  pub room : Option ℕ
  pub waits : List ℕ
  pub failed : Bool

-- the same, of the code's own buffer
abbrev pub buffered : {S : Type 0} → (S → Option (List ℕ)) → (S → Option ℕ) → Pieces S → Buffered
buffered emitted room p = record {
  name = p.sink.ghost_name;
  pending = emitted p.sink.now;
  room = room p.sink.now;
  waits = waiting p.buffer;
  failed = p.failed;
}

-- a text was added to a buffer: a front of both was sent, and the rest is buffered
pub record Moves (old : Buffered) (text : List ℕ) (new : Buffered) : Type 0 where
  pub same : new.name ≡ old.name
  pub goes_on : new.failed ≡ old.failed
  pub sent : List ℕ
  pub appended : Appends old.pending new.pending sent
  pub used : UsesRoom old.room new.room (length sent)
  pub parts : old.waits ++ text ≡ sent ++ new.waits

-- a text was added to a buffer and a write failed: a beginning of both was sent, and there is no room for both, if that is known
pub record Stops (old : Buffered) (text : List ℕ) (new : Buffered) : Type 0 where
  pub same : new.name ≡ old.name
  pub failed : new.failed ≡ true
  pub front : AppendsFront old.pending new.pending (old.waits ++ text)
  pub tight : IsTight old.room (length (old.waits ++ text))

-- a beginning of a text was added to a buffer, and no write failed
pub record MovesSome (old : Buffered) (text : List ℕ) (new : Buffered) : Type 0 where
  pub count : ℕ
  pub within : count ≤ length text
  pub moves : Moves old (take count text) new

-- a text was added to a buffer in part
abbrev pub MovesFront : Buffered → List ℕ → Buffered → Type 0
MovesFront old text new = Stops old text new ⊎ MovesSome old text new

-- why a buffer isn't closed: what is buffered wasn't sent whole; or printing had failed, with this error where a write had, or
-- for want of memory
abbrev pub ClosesNot : {T : Type 0} → Result T IoFault → Buffered → Buffered → IoFault → Type 0
ClosesNot (Ok x) old new e = Stops old [] new
ClosesNot (Err f) old new e =
    (new ≡ old) × (((old.failed ≡ true) × (e ≡ f)) ⊎ ((old.failed ≡ false) × (error_kind e ≡ OutOfMemory)))

-- what closing a buffer returns, by what printing to it returned
abbrev pub Closes : {T : Type 0} → Result T IoFault → Buffered → Buffered → Result T IoFault → Type 0
Closes printed old new (Ok x) = (printed ≡ Ok x) × Moves old [] new × (new.waits ≡ [])
Closes printed old new (Err e) = ClosesNot printed old new e

-- what follows `ERROR: ` for the item at an offset that can't be read
abbrev pub unreadable : ℕ → List ℕ
unreadable place = codes "cannot read the item at byte " ++ decimal place

-- the readable text of bytes; of a well-formed message, its lines
abbrev pub IsReadable : (ℕ → Option (List ℕ)) → Bool → List ℕ → List ℕ → Type 0
IsReadable names closed bytes text = IsPrinted names closed bytes text × IsPretty names closed bytes text

-- the diagnostic of bytes; of a well-formed message, that of its outline
abbrev pub IsDiagnostic : List ℕ → Bool → List ℕ → List ℕ → Type 0
IsDiagnostic prefix closed bytes text =
    (text ≡ hostile prefix closed (length bytes) (trace closed bytes)) × IsExact prefix closed bytes text
