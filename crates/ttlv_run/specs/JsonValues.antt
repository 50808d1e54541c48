-- Values of JSON that are read back as messages.
use Rattle.std.specs.Prelude.{◌≡◌, ◌≢◌, ◌⊎◌, ℕ, ◌+◌, ◌≤◌, Bool, true, false, List, [], ◌∷◌, ◌++◌, length, take, drop, Option, Some, None, Result, Ok, Err}
use Rattle.std.specs.Prelude.{◌==◌, ◌||◌, IsTrue, EachIndex, slice_index, codes}
use Rattle.std.specs.Io.KnownBytes.{Consumes}
use Rattle.std.specs.Str.{IsUtf8}
use Rattle.hex.specs.Hex.{encode_upper}
use Rattle.kmip_ttlv_types.specs.Held.{Held, Gets}
use Rattle.kmip_ttlv_json.specs.declared.failure.JsonError.{JsonError}
use Rattle.kmip_ttlv_json.specs.declared.failure.JsonError.TheVariants.{OutOfMemory}
use Rattle.kmip_ttlv_json.specs.Readings.{IsReadAs, FailsToRead, error_words, error_offset, moved}
use Rattle.ttlv_run.specs.declared.from_json.ValueFault.{ValueFault}
use Rattle.ttlv_run.specs.declared.run_error.RunError.{RunError}
use Rattle.ttlv_run.specs.declared.run_error.RunError.TheVariants.{UnreadableInput, NotUtf8}
use Rattle.ttlv_run.specs.declared.run_error.RunError.TheVariants.{UnwritableOutput, ClosedPipe, NoMemory}
use Rattle.ttlv_run.specs.Columns.{body, mark_length}
use Rattle.ttlv_run.specs.Inputs.{TakesAll, TakesSome}
use Rattle.ttlv_run.specs.JsonEnds.{values_of, IsOpen}
use Rattle.ttlv_run.specs.Reasons.{IsOfPrinting, place_report, PrintsFront}
use Rattle.ttlv_run.specs.Runs.{Streams}

-- what is printed of a message: its bytes, or these in hexadecimal and a line feed
abbrev pub message_output : Bool → List ℕ → List ℕ
message_output true message = message
message_output false message = encode_upper message ++ 10 ∷ []

-- white space of JSON (RFC 8259, section 2)
abbrev pub is_space : ℕ → Bool
is_space b = b == 32 || b == 9 || b == 10 || b == 13

-- a text has nothing else
abbrev pub IsBlank : List ℕ → Type 0
IsBlank s = EachIndex s (λ k. IsTrue (is_space (slice_index s k)))

-- a value, behind its mark, is the JSON of a message, and this is printed of it; of a blank value nothing
abbrev pub GivesValue : Bool → List ℕ → List ℕ → Type 0
GivesValue raw value text =
    (IsBlank (body value) × (text ≡ []))
    ⊎ ((message : List ℕ) × IsReadAs (body value) message × (text ≡ message_output raw message))

-- a value is not blank, and not the JSON of a message, for this reason, whose offset is that in the value
pub record IsBad (value : List ℕ) (error : JsonError) : Type 0 where
  pub some : ¬ (IsBlank (body value))
  pub why : JsonError
  pub fails : FailsToRead (body value) why
  pub is : error ≡ moved (mark_length value) why
  pub within : error_offset error ≤ length value
  pub reported : error ≢ OutOfMemory

-- what was appended to the output of a value, or why it is bad
abbrev pub Prints : Bool → List ℕ → Held → Held → Option JsonError → Type 0
Prints raw value old new None = (text : List ℕ) × GivesValue raw value text × Gets old new text
Prints raw value old new (Some error) = IsBad value error × Gets old new []

-- what was appended of a value by a call that failed: a beginning of what is printed of it, or nothing as memory ran out
abbrev pub Spoils : Bool → RunError → List ℕ → Held → Held → Type 0
Spoils raw why value old new =
    ((text : List ℕ) × GivesValue raw value text × PrintsFront why old new text) ⊎ ((why ≡ NoMemory) × Gets old new [])

-- what is printed of some values, none of which is bad
pub data AllGive (raw : Bool) : List (List ℕ) → List ℕ → Type 0 where
  no_value : AllGive raw [] []
  one_more :
      (values more : List (List ℕ)) (value text part all : List ℕ)
      → AllGive raw values text
      → GivesValue raw value part
      → more ≡ values ++ (value ∷ [])
      → all ≡ text ++ part
      → AllGive raw more all

-- the bytes of a value are text, and what is said above was appended
abbrev pub PrintsBytes : Bool → List ℕ → Held → Held → Option JsonError → Type 0
PrintsBytes raw value old new error = IsUtf8 value × Prints raw value old new error

-- or they aren't, or printing failed
abbrev pub FailsAt : Bool → List ℕ → Held → Held → RunError → Type 0
FailsAt raw value old new NotUtf8 = (IsUtf8 value → ⊥) × Gets old new []
FailsAt raw value old new why = IsOfPrinting why × Spoils raw why value old new

-- where a value begins, and where and why it is wrong, if it is
abbrev pub value_fault : ℕ → JsonError → ValueFault
value_fault value error = record { value = value; offset = value + error_offset error; error = error }

abbrev pub fault_at : ℕ → Option JsonError → Option ValueFault
fault_at value None = None
fault_at value (Some error) = Some (value_fault value error)

-- the bytes up to a place are whole values of text, each with the line feed that ends it, and this is printed of them
pub record GivesValues (raw : Bool) (bytes : List ℕ) (place : ℕ) (text : List ℕ) : Type 0 where
  pub within : place ≤ length bytes
  pub values : List (List ℕ)
  pub are : (more : List ℕ) → values_of (take place bytes ++ more) ≡ values ++ values_of more
  pub is_text : IsUtf8 (take place bytes)
  pub give : AllGive raw values text

-- and this value stands behind them
pub record NextValue (bytes : List ℕ) (place : ℕ) (value : List ℕ) : Type 0 where
  pub others : List (List ℕ)
  pub first : values_of (drop place bytes) ≡ value ∷ others

-- the line on standard error: what the input is called, where it is wrong and why
abbrev pub bad_line : List ℕ → ValueFault → List ℕ
bad_line name fault =
    place_report name (Some fault.offset) ++ codes ": " ++ error_words fault.error ++ codes "\n"

-- the whole input was taken, each of its values is the JSON of a message or blank, and exactly what is printed of them was appended
-- to the output
pub record PrintedJson (raw : Bool) (s : Streams) : Type 0 where
  pub input : List ℕ
  pub text : List ℕ
  pub taken : TakesAll s.input s.input_left input
  pub is_text : IsUtf8 input
  pub give : AllGive raw (values_of input) text
  pub appended : Gets s.output s.output_now text

-- a value of the input is bad, and exactly what is printed of the values before it was appended
pub record FaultsJson (raw : Bool) (s : Streams) (fault : ValueFault) : Type 0 where
  pub input : List ℕ
  pub text : List ℕ
  pub value : List ℕ
  pub taken : TakesSome s.input s.input_left input
  pub gives : GivesValues raw input fault.value text
  pub next : NextValue input fault.value value
  pub is_text : IsUtf8 value
  pub bad : IsBad value fault.error
  pub place : fault.offset ≡ fault.value + error_offset fault.error
  pub appended : Gets s.output s.output_now text

-- exactly what is printed of the values that came before reading failed was appended
pub record UnreadJson (raw : Bool) (s : Streams) : Type 0 where
  pub bytes : List ℕ
  pub place : ℕ
  pub text : List ℕ
  pub taken : Consumes s.input s.input_left bytes
  pub gives : GivesValues raw bytes place text
  pub is_open : IsOpen (drop place bytes)
  pub appended : Gets s.output s.output_now text

-- a value of the input is no text, and exactly what is printed of the values before it was appended
pub record NoTextJson (raw : Bool) (s : Streams) : Type 0 where
  pub input : List ℕ
  pub place : ℕ
  pub text : List ℕ
  pub value : List ℕ
  pub taken : TakesSome s.input s.input_left input
  pub gives : GivesValues raw input place text
  pub next : NextValue input place value
  pub no_text : IsUtf8 value → ⊥
  pub appended : Gets s.output s.output_now text

-- a beginning of what is printed of a front of the input's values was appended
pub record UnwrittenJson (raw : Bool) (s : Streams) (why : RunError) : Type 0 where
  pub input : List ℕ
  pub front : List (List ℕ)
  pub rest : List (List ℕ)
  pub text : List ℕ
  pub taken : TakesSome s.input s.input_left input
  pub there : values_of input ≡ front ++ rest
  pub give : AllGive raw front text
  pub appended : PrintsFront why s.output s.output_now text

-- why not all values were printed, and what was done by then
abbrev pub FailsJson : Bool → Streams → RunError → Type 0
FailsJson raw s UnreadableInput = IsTrue s.can_fail × UnreadJson raw s
FailsJson raw s NotUtf8 = NoTextJson raw s
FailsJson raw s UnwritableOutput = UnwrittenJson raw s UnwritableOutput
FailsJson raw s ClosedPipe = UnwrittenJson raw s ClosedPipe
FailsJson raw s NoMemory = UnwrittenJson raw s NoMemory
FailsJson raw s _ = ⊥

abbrev pub RespondsJson : Bool → Streams → Result (Option ValueFault) RunError → Type 0
RespondsJson raw s (Ok None) = PrintedJson raw s
RespondsJson raw s (Ok (Some fault)) = FaultsJson raw s fault
RespondsJson raw s (Err why) = FailsJson raw s why
