-- Messages that are found within anything else.
use Rattle.std.specs.Prelude.{◌≡◌, ◌⊎◌, ℕ, ◌+◌, ◌<◌, ◌≤◌, List, [], ◌++◌, length, codes, IsTrue}
use Rattle.std.specs.Prelude.{Option, Some, None, Result, Ok, Err}
use Rattle.std.specs.Fmt.{decimal}
use Rattle.kmip_ttlv_types.specs.Held.{Held, Gets, Rests}
use Rattle.ttlv_captures.specs.Captures.{StandsFirst, NoneBetween, costs, limit}
use Rattle.ttlv_captures.specs.declared.search.Capture.{Capture}
use Rattle.ttlv_captures.specs.declared.search.Search.{Search}
use Rattle.ttlv_captures.specs.declared.notation.Notation.{Notation}
use Rattle.ttlv_captures.specs.declared.notation.Notation.TheVariants as notation
use Rattle.ttlv_run.specs.declared.find.FindFault.{FindFault}
use Rattle.ttlv_run.specs.declared.find.FindFault.TheVariants.{NoneFound, GaveUp}
use Rattle.ttlv_run.specs.declared.find.Found.{Found}
use Rattle.ttlv_run.specs.declared.find.Found.TheVariants.{Message, End, Limit}
use Rattle.ttlv_run.specs.declared.job.Look.{Look}
use Rattle.ttlv_run.specs.declared.job.Task.TheVariants.{Show}
use Rattle.ttlv_run.specs.declared.kind.InputKind.{InputKind}
use Rattle.ttlv_run.specs.declared.run_error.RunError.{RunError}
use Rattle.ttlv_run.specs.declared.run_error.RunError.TheVariants.{UnreadableInput, UnwritableOutput, ClosedPipe, NoMemory}
use Rattle.ttlv_run.specs.Inputs.{TakesAll}
use Rattle.ttlv_run.specs.Kinds.{kind_of, kind_words}
use Rattle.ttlv_run.specs.Messages.{tag_there, Prints}
use Rattle.ttlv_run.specs.Reasons.{IsOfPrinting, PrintsFront, place_report}
use Rattle.ttlv_run.specs.Runs.{Streams}
use Rattle.ttlv_run.specs.Texts.{Names}

-- how a message is written, in words
abbrev pub notation_words : Notation → List ℕ
notation_words notation.Raw = codes "raw"
notation_words notation.Hexadecimal = codes "hexadecimal"
notation_words notation.Numbers = codes "a list of numbers"
notation_words notation.Escaped = codes "escaped"

-- the line in front of a message: where it begins, and how it is written
abbrev pub place_line : ℕ → Notation → List ℕ
place_line offset n = codes "byte " ++ (decimal offset ++ (codes " (" ++ (notation_words n ++ codes "):\n")))

-- these are the lines of a message, or a beginning of them
abbrev pub Shows : Names → Look → List ℕ → List ℕ → Type 0
Shows names look message lines = Prints names (Show look) message lines None

abbrev pub ShowsFront : Names → Look → List ℕ → List ℕ → Type 0
ShowsFront names look message front = (more : List ℕ) × Shows names look message (front ++ more)

-- this is printed of a message that was found: the line of its place, and those of its items
pub record IsFound (names : Names) (look : Look) (offset : ℕ) (n : Notation) (message text : List ℕ) : Type 0 where
  pub lines : List ℕ
  pub prints : Shows names look message lines
  pub is : text ≡ place_line offset n ++ lines

-- and this of the next message behind an offset, behind which is another one
pub record GivesNext (names : Names) (look : Look) (input : List ℕ) (from next : ℕ) (text : List ℕ) : Type 0 where
  pub offset : ℕ
  pub notation : Notation
  pub message : List ℕ
  pub taken : ℕ
  pub stands : StandsFirst input from offset notation message taken
  pub behind : next ≡ offset + taken
  pub found : IsFound names look offset notation message text

-- what is printed of the messages up to an offset, each of which is the first behind the one before
pub data GivesUpTo (names : Names) (look : Look) (input : List ℕ) : ℕ → List ℕ → Type 0 where
  none_given : GivesUpTo names look input 0 []
  one_more :
      (from next : ℕ) (text part all : List ℕ)
      → GivesUpTo names look input from text
      → GivesNext names look input from next part
      → all ≡ text ++ part
      → GivesUpTo names look input next all

-- all messages were printed, and there are some
pub record FindsAll (names : Names) (look : Look) (input : List ℕ) (output output_now : Held) : Type 0 where
  pub at : ℕ
  pub text : List ℕ
  pub gives : GivesUpTo names look input at text
  pub some : 0 < at
  pub no_more : NoneBetween input at (length input)
  pub appended : Gets output output_now text

-- there is none; or all in front of an offset were printed, where the search ended since too much was read in vain
abbrev pub Lacks : Names → Look → List ℕ → Held → Held → FindFault → Type 0
Lacks names look input output output_now (NoneFound kind) =
    NoneBetween input 0 (length input) × (kind ≡ kind_of (tag_there input 0)) × Gets output output_now []
Lacks names look input output output_now (GaveUp offset) =
    (at : ℕ) × (text : List ℕ) × GivesUpTo names look input at text × NoneBetween input at offset
    × (limit (length input) ≤ costs input offset) × Gets output output_now text

-- this is printed of a message that was found, or a beginning
abbrev pub IsPrinted : {A : Type 0} → Names → Look → Capture A → List ℕ → Type 0
IsPrinted names look c text = IsFound names look c.offset c.written.notation c.written.message.items text

abbrev pub IsPrintedFront : {A : Type 0} → Names → Look → Capture A → List ℕ → Type 0
IsPrintedFront names look c front = (more : List ℕ) × IsPrinted names look c (front ++ more)

-- nothing, or a beginning of what is printed of the next message
abbrev pub BeginsNext : Names → Look → List ℕ → ℕ → List ℕ → Type 0
BeginsNext names look input at part =
    (part ≡ []) ⊎ ((next : ℕ) × (more : List ℕ) × GivesNext names look input at next (part ++ more))

-- what a step of a search printed: the next message; or nothing, at the end, or where too much was read in vain
abbrev pub Steps : Names → Look → Search → Search → Held → Held → Found → Type 0
Steps names look old new output output_now Message =
    (text : List ℕ) × GivesNext names look old.text.now old.offset new.offset text × (old.offset < new.offset) × Gets output output_now text
Steps names look old new output output_now End =
    NoneBetween old.text.now old.offset (length old.text.now) × (output_now ≡ output)
Steps names look old new output output_now (Limit offset) =
    NoneBetween old.text.now old.offset offset × (limit (length old.text.now) ≤ costs old.text.now offset) × (output_now ≡ output)

-- or it printed a beginning of the next message, or nothing, for this reason
abbrev pub FailsStep : Names → Look → Search → Held → Held → RunError → Type 0
FailsStep names look old output output_now why =
    (part : List ℕ) × IsOfPrinting why × BeginsNext names look old.text.now old.offset part × PrintsFront why output output_now part

-- messages were printed, and a beginning of the next one or nothing, for this reason
pub record FindsFront (names : Names) (look : Look) (input : List ℕ) (output output_now : Held) (why : RunError) : Type 0 where
  pub at : ℕ
  pub text : List ℕ
  pub part : List ℕ
  pub of_printing : IsOfPrinting why
  pub gives : GivesUpTo names look input at text
  pub begun : BeginsNext names look input at part
  pub appended : PrintsFront why output output_now (text ++ part)

-- what was printed of the messages in bytes
abbrev pub Searches : Names → Look → List ℕ → Held → Held → Result (Option FindFault) RunError → Type 0
Searches names look input output output_now (Ok None) = FindsAll names look input output output_now
Searches names look input output output_now (Ok (Some fault)) = Lacks names look input output output_now fault
Searches names look input output output_now (Err why) = FindsFront names look input output output_now why

-- the whole input was taken, and this was printed of its messages
pub record FoundAll (names : Names) (look : Look) (s : Streams) : Type 0 where
  pub input : List ℕ
  pub taken : TakesAll s.input s.input_left input
  pub finds : FindsAll names look input s.output s.output_now

-- or this is why not, or not all
pub record LacksSome (names : Names) (look : Look) (s : Streams) (fault : FindFault) : Type 0 where
  pub input : List ℕ
  pub taken : TakesAll s.input s.input_left input
  pub lacks : Lacks names look input s.output s.output_now fault

-- or a beginning
pub record FoundFront (names : Names) (look : Look) (s : Streams) (why : RunError) : Type 0 where
  pub input : List ℕ
  pub taken : TakesAll s.input s.input_left input
  pub finds : FindsFront names look input s.output s.output_now why

-- why a search failed, and what was printed by then: nothing of an input that was not read to its end
abbrev pub FailsToFind : Names → Look → Streams → RunError → Type 0
FailsToFind names look s UnreadableInput = IsTrue s.can_fail × Rests s.output s.output_now
FailsToFind names look s UnwritableOutput = FoundFront names look s UnwritableOutput
FailsToFind names look s ClosedPipe = FoundFront names look s ClosedPipe
FailsToFind names look s NoMemory = Rests s.output s.output_now ⊎ FoundFront names look s NoMemory
FailsToFind names look s _ = ⊥

abbrev pub RespondsFind : Names → Look → Streams → Result (Option FindFault) RunError → Type 0
RespondsFind names look s (Ok None) = FoundAll names look s
RespondsFind names look s (Ok (Some fault)) = LacksSome names look s fault
RespondsFind names look s (Err why) = FailsToFind names look s why

-- where the search ended, if it did
abbrev pub fault_offset : FindFault → Option ℕ
fault_offset (NoneFound kind) = None
fault_offset (GaveUp offset) = Some offset

-- what is wrong, in words
abbrev pub fault_words : FindFault → List ℕ
fault_words (NoneFound kind) = codes "no message"
fault_words (GaveUp offset) = codes "the search ended here, since too much looked like messages"

-- what the input looks like, if no message stands in it
abbrev pub fault_kind : FindFault → Option InputKind
fault_kind (NoneFound kind) = kind
fault_kind (GaveUp offset) = None

-- the line on standard error: what the input is called, where the search ended if it did, what is wrong, and what the input looks like
abbrev pub find_line : List ℕ → FindFault → List ℕ
find_line name fault = place_report name (fault_offset fault) ++ codes ": " ++ fault_words fault ++ kind_words (fault_kind fault) ++ codes "\n"
