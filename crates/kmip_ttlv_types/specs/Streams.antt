-- What a call does to the known bytes of a reader or a writer.
use Rattle.std.specs.Prelude.{◌≡◌, ℕ, ◌<◌, ◌≤◌, ◌+◌, List, ◌++◌, length, take, Bool, IsTrue, ◌⊎◌, IfSome, Option, None}
use Rattle.std.specs.Prelude.{Some, Result, Ok, Err}
use Rattle.std.specs.Io.KnownBytes.{Appends, Consumes, IsAtEnd}
use Rattle.std.specs.IoError.{error_kind}
use Rattle.std.specs.declared.io.Error.{Error as IoFault}
use Rattle.std.specs.declared.io.ErrorKind.TheVariants.{UnexpectedEof}
use Rattle.kmip_ttlv_types.specs.declared.error.Error.{Error}
use Rattle.kmip_ttlv_types.specs.declared.error.Error.TheVariants as errors
use Rattle.kmip_ttlv_types.specs.declared.stream.Filled.{Filled}
use Rattle.kmip_ttlv_types.specs.declared.stream.Filled.TheVariants.{Full, Ended, Failed}

-- some beginning of these bytes was appended
pub record AppendsFront (old new : Option (List ℕ)) (bytes : List ℕ) : Type 0 where
  pub count : ℕ
  pub within : count ≤ length bytes
  pub appends : Appends old new (take count bytes)

-- at most this many bytes were consumed
pub record ConsumesUpTo (old new : Option (List ℕ)) (most : ℕ) : Type 0 where
  pub bytes : List ℕ
  pub within : length bytes ≤ most
  pub consumes : Consumes old new bytes

-- the known bytes are fewer than n
abbrev pub IsShort : Option (List ℕ) → ℕ → Type 0
IsShort known n = IfSome known (λ bytes. length bytes < n)

-- a buffer was filled by the bytes that were consumed; or the input ended, and had fewer bytes; or
-- reading failed, if it can
abbrev pub Fills : Bool → Option (List ℕ) → Option (List ℕ) → Filled → List ℕ → Type 0
Fills can_fail old new Full buf = Consumes old new buf
Fills can_fail old new Ended buf = IsShort old (length buf) × ConsumesUpTo old new (length buf)
Fills can_fail old new (Failed e) buf = IsTrue can_fail × ConsumesUpTo old new (length buf)

-- why n bytes didn't come: the input ended too early, or reading failed, if it can
abbrev pub Lacks : Bool → Option (List ℕ) → ℕ → IoFault → Type 0
Lacks can_fail known n e = IsTrue can_fail ⊎ ((error_kind e ≡ UnexpectedEof) × IsShort known n)

-- a buffer was filled by the bytes that were consumed, or they didn't come
abbrev pub FillsAll : {T A : Type 0} → Bool → Option (List ℕ) → Option (List ℕ) → List ℕ → Result T (Error A) → Type 0
FillsAll can_fail old new buf (Ok v) = Consumes old new buf
FillsAll can_fail old new buf (Err (errors.IoError e)) =
    Lacks can_fail old (length buf) e × ConsumesUpTo old new (length buf)
FillsAll can_fail old new buf (Err _) = ⊥

-- n bytes were read into memory; or they didn't come; or memory ran out, if any is needed
abbrev pub Takes :
    {T A : Type 0} → (T → List ℕ) → Bool
    → Option (List ℕ) → Option (List ℕ) → ℕ → Result T (Error A) → Type 0
Takes items can_fail old new n (Ok v) = Consumes old new (items v) × (length (items v) ≡ n)
Takes items can_fail old new n (Err (errors.IoError e)) = Lacks can_fail old n e × ConsumesUpTo old new n
Takes items can_fail old new n (Err errors.OutOfMemory) = (0 < n) × ConsumesUpTo old new n
Takes items can_fail old new n (Err _) = ⊥

-- all bytes that were left were read into memory; or reading failed, if it can; or memory ran out
abbrev pub TakesAll : {T A : Type 0} → (T → List ℕ) → Bool → Option (List ℕ) → Option (List ℕ) → Result T (Error A) → Type 0
TakesAll items can_fail old new (Ok v) = Consumes old new (items v) × IsAtEnd new
TakesAll items can_fail old new (Err (errors.IoError e)) = IsTrue can_fail
TakesAll items can_fail old new (Err errors.OutOfMemory) = Unit {0}
TakesAll items can_fail old new (Err _) = ⊥

-- n bytes were read, and follow those that were there
pub record Behind (old new : Option (List ℕ)) (had has : List ℕ) (n : ℕ) : Type 0 where
  pub came : List ℕ
  pub consumes : Consumes old new came
  pub count : length came ≡ n
  pub parts : has ≡ had ++ came

-- n bytes were read, and follow those that were there; or they didn't come; or memory ran out; neither if
-- n is zero
abbrev pub TakesMore :
    {T A : Type 0} → Bool → (old new : Option (List ℕ)) → (had has : List ℕ) → ℕ → Result T (Error A) → Type 0
TakesMore can_fail old new had has n (Ok v) = Behind old new had has n
TakesMore can_fail old new had has n (Err (errors.IoError e)) =
    (0 < n) × Lacks can_fail old n e × ConsumesUpTo old new n
TakesMore can_fail old new had has n (Err errors.OutOfMemory) = (0 < n) × ConsumesUpTo old new n
TakesMore can_fail old new had has n (Err _) = ⊥

-- the room, if it is known, is less by at most n bytes
abbrev pub UsesRoom : Option ℕ → Option ℕ → ℕ → Type 0
UsesRoom None new n = Unit {0}
UsesRoom (Some before) None n = ⊥
UsesRoom (Some before) (Some after) n = before ≤ after + n

-- there is no room for n bytes, or the room isn't known
abbrev pub IsTight : Option ℕ → ℕ → Type 0
IsTight room n = IfSome room (λ free. free < n)
