-- A text of XML that is read back as messages.
use Rattle.std.specs.Prelude.{◌≡◌, ◌≢◌, ◌⊎◌, ℕ, Bool, true, false, List, [], ◌++◌, ◌+◌, codes, Option, Some, None, Result, Ok, Err, IsTrue}
use Rattle.std.specs.Str.{IsUtf8}
use Rattle.kmip_ttlv_types.specs.Held.{Held, Gets, Rests}
use Rattle.kmip_ttlv_xml.specs.declared.failure.XmlError.TheVariants.{OutOfMemory}
use Rattle.kmip_ttlv_xml.specs.XmlReadings.{IsReadAs, FailsToRead, error_words, error_offset}
use Rattle.ttlv_run.specs.declared.from_xml.XmlFault.{XmlFault}
use Rattle.ttlv_run.specs.declared.from_xml.XmlFault.TheVariants.{NoXml, NoMessage}
use Rattle.ttlv_run.specs.declared.job.Strict.TheVariants.{Hexadecimal}
use Rattle.ttlv_run.specs.declared.job.Task.{Task}
use Rattle.ttlv_run.specs.declared.job.Task.TheVariants.{Whole}
use Rattle.ttlv_run.specs.declared.messages.Place.{Place}
use Rattle.ttlv_run.specs.declared.run_error.RunError.{RunError}
use Rattle.ttlv_run.specs.declared.run_error.RunError.TheVariants.{UnreadableInput, NotUtf8, UnwritableOutput, ClosedPipe, NoMemory}
use Rattle.ttlv_run.specs.Columns.{body, mark_length}
use Rattle.ttlv_run.specs.Escapes.{escape}
use Rattle.ttlv_run.specs.Inputs.{TakesAll}
use Rattle.ttlv_run.specs.Messages.{Prints, Continues}
use Rattle.ttlv_run.specs.Reasons.{IsOfPrinting, PrintsFront, place_report}
use Rattle.ttlv_run.specs.Runs.{Streams}
use Rattle.ttlv_run.specs.Texts.{Names}

-- each message in hexadecimal, in a line of its own
abbrev pub in_lines : Task
in_lines = Whole Hexadecimal

-- what is printed of items: their bytes; or each in such a line, up to the first that is no message
abbrev pub GivesItems : Names → Bool → List ℕ → List ℕ → Bool → Type 0
GivesItems names true bytes text whole = (text ≡ bytes) × (whole ≡ true)
GivesItems names false bytes text true = Prints names in_lines bytes text None
GivesItems names false bytes text false = (place : Place) × Prints names in_lines bytes text (Some place)

-- what is printed of them goes on behind this text
abbrev pub GoesOn : Names → Bool → List ℕ → List ℕ → Type 0
GoesOn names true bytes text = text ≡ bytes
GoesOn names false bytes text = Continues names in_lines bytes text

-- what was appended of them, and whether each is a message
abbrev pub PrintsItems : Names → Bool → List ℕ → Held → Held → Bool → Type 0
PrintsItems names raw bytes old new whole = (text : List ℕ) × GivesItems names raw bytes text whole × Gets old new text

-- or a beginning, for this reason
abbrev pub SpoilsItems : Names → Bool → List ℕ → Held → Held → RunError → Type 0
SpoilsItems names raw bytes old new why = IsOfPrinting why × ((text : List ℕ) × GoesOn names raw bytes text × PrintsFront why old new text)

-- why a text, behind its mark, is no messages' XML: it is none of items, and this is where and why; or an item is no message
abbrev pub IsFault : Names → Bool → List ℕ → Held → Held → XmlFault → Type 0
IsFault names raw text old new (NoXml offset error) =
    FailsToRead (body text) error × (error ≢ OutOfMemory) × (offset ≡ error_offset error + mark_length text) × Gets old new []
IsFault names raw text old new NoMessage =
    (bytes : List ℕ) × IsReadAs (body text) bytes × PrintsItems names raw bytes old new false

-- what was appended of a text
abbrev pub PrintsText : Names → Bool → List ℕ → Held → Held → Option XmlFault → Type 0
PrintsText names raw text old new None = (bytes : List ℕ) × IsReadAs (body text) bytes × PrintsItems names raw bytes old new true
PrintsText names raw text old new (Some fault) = IsFault names raw text old new fault

-- or a beginning, for this reason; or nothing, as memory ran out
abbrev pub SpoilsText : Names → Bool → List ℕ → Held → Held → RunError → Type 0
SpoilsText names raw text old new why =
    ((bytes : List ℕ) × IsReadAs (body text) bytes × SpoilsItems names raw bytes old new why) ⊎ ((why ≡ NoMemory) × Rests old new)

-- the whole input was taken, and is a text
pub record IsText (s : Streams) (input : List ℕ) : Type 0 where
  pub taken : TakesAll s.input s.input_left input
  pub is_text : IsUtf8 input

-- what came of it, as is said above
abbrev pub GaveXml : Names → Bool → Streams → Option XmlFault → Type 0
GaveXml names raw s fault = (input : List ℕ) × IsText s input × PrintsText names raw input s.output s.output_now fault

-- why not all of it was printed, and what was by then
abbrev pub FailsXml : Names → Bool → Streams → RunError → Type 0
FailsXml names raw s UnreadableInput = IsTrue s.can_fail × Rests s.output s.output_now
FailsXml names raw s NotUtf8 =
    (input : List ℕ) × TakesAll s.input s.input_left input × ¬ (IsUtf8 input) × Rests s.output s.output_now
FailsXml names raw s UnwritableOutput = (input : List ℕ) × IsText s input × SpoilsText names raw input s.output s.output_now UnwritableOutput
FailsXml names raw s ClosedPipe = (input : List ℕ) × IsText s input × SpoilsText names raw input s.output s.output_now ClosedPipe
FailsXml names raw s NoMemory =
    Rests s.output s.output_now ⊎ ((input : List ℕ) × IsText s input × SpoilsText names raw input s.output s.output_now NoMemory)
FailsXml names raw s _ = ⊥

abbrev pub RespondsXml : Names → Bool → Streams → Result (Option XmlFault) RunError → Type 0
RespondsXml names raw s (Ok fault) = GaveXml names raw s fault
RespondsXml names raw s (Err why) = FailsXml names raw s why

-- the line on standard error: what the input is called, where it is wrong and why; or that an item is no message
abbrev pub xml_line : List ℕ → XmlFault → List ℕ
xml_line name (NoXml offset error) = place_report name (Some offset) ++ codes ": " ++ error_words error ++ codes "\n"
xml_line name NoMessage = escape name ++ codes ": " ++ codes "an item is no message: the root is no Structure" ++ codes "\n"
