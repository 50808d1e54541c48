-- The messages of two inputs, compared: the first with the first, and so on.
use Rattle.std.specs.Borrow.{Bor}
use Rattle.std.specs.Prelude.{◌≡◌, ℕ, ◌+◌, ◌≤◌, max, Bool, true, false, not, ◌&&◌, ◌||◌, List, [], ◌++◌, length, map, codes, Option, Some, None, Result, Ok, Err}
use Rattle.std.specs.List.{slice_get}
use Rattle.std.specs.Result.{is_err}
use Rattle.hex.specs.Hex.{decode_of}
use Rattle.hex.specs.declared.FromHexError.{FromHexError}
use Rattle.kmip_ttlv_types.specs.Held.{Held, Gets, Says}
use Rattle.kmip_ttlv_items.specs.declared.found.Fault.{Fault}
use Rattle.ttlv_run.specs.declared.compared.Pair.{Pair}
use Rattle.ttlv_run.specs.declared.job.Asked.{Asked}
use Rattle.ttlv_run.specs.declared.job.Look.{Look}
use Rattle.ttlv_run.specs.declared.job.Task.TheVariants.{Show}
use Rattle.ttlv_run.specs.declared.job.Values.TheVariants.{Lasting}
use Rattle.ttlv_run.specs.declared.run_error.RunError.{RunError}
use Rattle.ttlv_run.specs.declared.run_error.RunError.TheVariants.{NoMemory}
use Rattle.ttlv_run.specs.Differences.{lines_in, AddsDifferences}
use Rattle.ttlv_run.specs.Files.{At, Opening, FileDone, greater}
use Rattle.ttlv_run.specs.Gathers.{Gathered}
use Rattle.ttlv_run.specs.Reasons.{status_in, error_line, IsOfPrinting, PrintsFront}
use Rattle.ttlv_run.specs.Texts.{Names, IsMessageText}

-- how lines are printed that are compared: whole, but for values that differ in each run
abbrev pub lasting_look : Look
lasting_look = record {
  values = Lasting;
  secrets_hidden = false;
  offsets = false;
  lengths = false;
  bytes = false;
  width = None;
  colored = false;
  only = None;
  path = None;
}

-- the bytes that digits are, if they are some
abbrev pub bytes_in : Result (List ℕ) FromHexError → List ℕ
bytes_in (Ok bytes) = bytes
bytes_in (Err e) = []

abbrev pub decoded : List ℕ → List ℕ
decoded digits = bytes_in (decode_of digits)

-- the messages that were printed in hexadecimal, a line each
abbrev pub messages_in : List ℕ → List (List ℕ)
messages_in text = map decoded (lines_in text)

-- these are the readable lines of a message, up to its first fault; where there is no message, there are none
abbrev pub AreLinesOf : Names → Option (List ℕ) → List ℕ → Type 0
AreLinesOf names None text = text ≡ []
AreLinesOf names (Some message) text = (fault : Option Fault) × IsMessageText names (Show lasting_look) 0 message text fault

-- what is printed of two messages, or of one alone, and whether their lines differ: nothing if not, otherwise all of them, marked
pub record ComparesPair (names : Names) (first second : Option (List ℕ)) (text : List ℕ) (differ : Bool) : Type 0 where
  pub one : List ℕ
  pub other : List ℕ
  pub one_has : AreLinesOf names first one
  pub other_has : AreLinesOf names second other
  pub printed : AddsDifferences (lines_in one) (lines_in other) [] text differ

-- a beginning of that was appended, for this reason; if memory ran out before it was made, nothing was
pub data FailsPair (names : Names) (first second : Option (List ℕ)) (old new : Held) (why : RunError) : Type 0 where
  unmade : why ≡ NoMemory → new ≡ old → FailsPair names first second old new why
  unsent :
      (text : List ℕ) (differ : Bool)
      → ComparesPair names first second text differ → IsOfPrinting why → PrintsFront why old new text
      → FailsPair names first second old new why

-- what is printed of so many pairs of messages, from the first, one behind the other, and whether none differ
pub data ComparesFirst (names : Names) (first second : List (List ℕ)) : ℕ → List ℕ → Bool → Type 0 where
  no_pair : ComparesFirst names first second 0 [] true
  one_pair :
      (count : ℕ) (before text : List ℕ) (alike differ : Bool)
      → ComparesFirst names first second count before alike
      → ComparesPair names (slice_get first count) (slice_get second count) text differ
      → ComparesFirst names first second (count + 1) (before ++ text) (not differ && alike)

-- what is printed of all of them was appended; or a beginning of what is printed of the first, for this reason
pub record PrintsAll (names : Names) (first second : List (List ℕ)) (old new : Held) (alike : Bool) : Type 0 where
  pub text : List ℕ
  pub compared : ComparesFirst names first second (max (length first) (length second)) text alike
  pub appended : Gets old new text

pub record PrintsSome (names : Names) (first second : List (List ℕ)) (old new : Held) (why : RunError) : Type 0 where
  pub count : ℕ
  pub text : List ℕ
  pub alike : Bool
  pub within : count ≤ max (length first) (length second)
  pub compared : ComparesFirst names first second count text alike
  pub reason : IsOfPrinting why
  pub appended : PrintsFront why old new text

-- how comparing ends: nothing is reported, or why not all was printed
abbrev pub EndsComparing : Names → List (List ℕ) → List (List ℕ) → Held → Held → Held → Held → Result Bool RunError → Type 0
EndsComparing names first second old new errors errors_now (Ok alike) = PrintsAll names first second old new alike × (errors_now ≡ errors)
EndsComparing names first second old new errors errors_now (Err why) =
    PrintsSome names first second old new why × Says errors errors_now (error_line (codes "ttlv") why)

-- a file was opened, and what was asked is done with its bytes, but what is printed was gathered in memory; or it could not be opened
pub record GathersFile
    {O I : Type 0} (how : Opening O I) (names : Names) (asked : Asked) (name : Bor (List ℕ)) (old new : O) (errors errors_now : Held)
    (values : List ℕ) (outcome : Result Bool RunError) : Type 0 where
  pub memory : Gathered values
  pub done : FileDone how names asked false name (record { opener = old; output = memory.old; errors = errors })
      (record { opener = new; output = memory.now; errors = errors_now }) outcome

-- what came of two files of which this was gathered: if all of both was read, their messages are compared, otherwise nothing is printed
pub data EndsPair
    (names : Names) (first second : List ℕ) (one other : Result Bool RunError) (old new errors errors_now : Held) (status : ℕ) : Type 0 where
  compared :
      (result : Result Bool RunError)
      → (is_err one || is_err other) ≡ false
      → EndsComparing names (messages_in first) (messages_in second) old new errors errors_now result
      → status ≡ greater (greater (status_in one) (status_in other)) (status_in result)
      → EndsPair names first second one other old new errors errors_now status
  unread :
      (is_err one || is_err other) ≡ true
      → new ≡ old → errors_now ≡ errors
      → status ≡ greater (status_in one) (status_in other)
      → EndsPair names first second one other old new errors errors_now status

-- both files are read, one after the other, and then compared
pub record ComparesFiles
    {O I : Type 0} (how : Opening O I) (names : Names) (asked : Asked) (pair : Pair) (old new : At O) (status : ℕ) : Type 0 where
  pub opener : O
  pub between : Held
  pub behind : Held
  pub first : List ℕ
  pub second : List ℕ
  pub one : Result Bool RunError
  pub other : Result Bool RunError
  pub first_read : GathersFile how names asked pair.first old.opener opener old.errors between first one
  pub second_read : GathersFile how names asked pair.second opener new.opener between behind second other
  pub ended : EndsPair names first second one other old.output new.output behind new.errors status
