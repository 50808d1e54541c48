-- Why a run ends early, and the line that says so.
use Rattle.std.specs.Prelude.{◌≡◌, ◌⊎◌, ℕ, Bool, true, false, List, [], ◌++◌, length, Option, Some, None, Result, Ok, Err, codes}
use Rattle.std.specs.Fmt.{decimal}
use Rattle.std.specs.IoError.{error_kind}
use Rattle.std.specs.declared.io.Error.{Error as IoFault}
use Rattle.std.specs.declared.io.ErrorKind.TheVariants.{OutOfMemory}
use Rattle.ttlv_run.specs.declared.run_error.RunError.{RunError}
use Rattle.ttlv_run.specs.declared.run_error.RunError.TheVariants.{UnopenedInput, UnreadableInput, MisreadInput}
use Rattle.ttlv_run.specs.declared.run_error.RunError.TheVariants.{NotUtf8, NoMessage, UnwritableOutput, ClosedPipe, NoMemory}
use Rattle.ttlv_run.specs.Escapes.{escape}
use Rattle.kmip_ttlv_types.specs.Held.{Held, Gets, GetsFront}
use Rattle.kmip_ttlv_types.specs.Streams.{AppendsFront, IsTight}
use Rattle.ttlv_run.specs.Misreadings.{misread_line}

-- 1 for an input without a message, 2 for one that can't be read or decoded, 3 where memory or the output fails
abbrev pub status_of : RunError → ℕ
status_of UnopenedInput = 2
status_of UnreadableInput = 2
status_of (MisreadInput m) = 2
status_of NotUtf8 = 2
status_of NoMessage = 1
status_of UnwritableOutput = 3
status_of ClosedPipe = 3
status_of NoMemory = 3

-- the status of a run: 0 where all is whole, 1 where something is malformed, or that of why it ended early
abbrev pub status_in : Result Bool RunError → ℕ
status_in (Ok true) = 0
status_in (Ok false) = 1
status_in (Err why) = status_of why

-- what is wrong, in words
abbrev pub words_of : RunError → List ℕ
words_of UnopenedInput = codes "it can't be opened"
words_of UnreadableInput = codes "it can't be read"
words_of (MisreadInput m) = codes "it stands for no bytes"
words_of NotUtf8 = codes "it is not UTF-8"
words_of NoMessage = codes "no message"
words_of UnwritableOutput = codes "the output can't be written"
words_of ClosedPipe = []
words_of NoMemory = codes "out of memory"

-- the output, or out of memory: why printing can fail
abbrev pub IsOfPrinting : RunError → Type 0
IsOfPrinting why = (why ≡ UnwritableOutput) ⊎ (why ≡ ClosedPipe) ⊎ (why ≡ NoMemory)

-- a beginning of a text was printed, for this reason: memory ran out, or there is no room for all of it, if that is known
pub record PrintsFront (why : RunError) (old new : Held) (text : List ℕ) : Type 0 where
  pub appended : AppendsFront old.pending new.pending text
  pub reason : (why ≡ NoMemory) ⊎ IsTight old.room (length text)

-- the error of a write that failed, or of memory that ran out
abbrev pub IsOfError : IoFault → RunError → Type 0
IsOfError e why = IsOfPrinting why × (error_kind e ≡ OutOfMemory → why ≡ NoMemory)

-- the beginning of a line: what the input is called, and the offset in it, if one is given
abbrev pub place_report : List ℕ → Option ℕ → List ℕ
place_report name None = escape name
place_report name (Some at) = escape name ++ codes ": byte " ++ decimal at

-- what was written to the errors: all of a text, or a beginning of it where they have no room for all, if that is known
abbrev pub Reports : Bool → Held → Held → List ℕ → Type 0
Reports true old new text = Gets old new text
Reports false old new text = GetsFront old new text

-- the line on standard error: where no one reads the output any more there is none
abbrev pub error_line : List ℕ → RunError → List ℕ
error_line name ClosedPipe = []
error_line name (MisreadInput m) = misread_line name m
error_line name why = escape name ++ codes ": " ++ words_of why ++ codes "\n"
