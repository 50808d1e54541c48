-- What a run takes, prints and says.
use Rattle.std.specs.Prelude.{◌≡◌, ◌⊎◌, ℕ, Bool, true, false, List, [], ◌∷◌, ◌++◌, ◌≤◌, ◌==◌, ◌&&◌, length, drop, nat_lt, Option, Some, None, Result, Ok, Err, IsTrue, if◌then◌else◌}
use Rattle.std.specs.Io.KnownBytes.{Consumes}
use Rattle.kmip_ttlv_items.specs.ItemWalks.{AreBytes}
use Rattle.std.specs.Str.{IsUtf8}
use Rattle.ttlv_run.specs.declared.form.Form.{Form}
use Rattle.ttlv_run.specs.declared.job.Job.{Job}
use Rattle.ttlv_run.specs.declared.job.Task.{Task}
use Rattle.ttlv_run.specs.declared.messages.Place.{Place}
use Rattle.ttlv_run.specs.declared.misread.Misread.{Misread}
use Rattle.ttlv_run.specs.declared.run_error.RunError.{RunError}
use Rattle.ttlv_run.specs.declared.run_error.RunError.TheVariants.{UnopenedInput, UnreadableInput, MisreadInput, NotUtf8, NoMessage}
use Rattle.ttlv_run.specs.declared.run_error.RunError.TheVariants.{UnwritableOutput, ClosedPipe, NoMemory}
use Rattle.kmip_ttlv_names.specs.NameTables.{lines_of}
use Rattle.ttlv_run.specs.declared.back.BackFault.{BackFault}
use Rattle.ttlv_run.specs.Backs.{FirstBreak, IsOneLine, AreLines, ReadsLines}
use Rattle.kmip_ttlv_types.specs.Held.{Held, Gets, Rests}
use Rattle.ttlv_run.specs.Fronts.{front_size, DecodesTo, StandsUpTo}
use Rattle.ttlv_run.specs.Inputs.{TakesAll, TakesSome, form_of, encoding_of, Stands, Misreads}
use Rattle.ttlv_run.specs.Messages.{is_there, wants_message, Whole, Prints, Continues, Breaks as MessageBreaks, fault_line, place_told}
use Rattle.ttlv_run.specs.Reasons.{PrintsFront}
use Rattle.ttlv_run.specs.Texts.{Names, text_back}

-- whether the input can fail, what it has, and what the output holds, before and after a run, as far as that is known
pub record Streams : Type 0 where
  pub can_fail : Bool
  pub input : Option (List ℕ)
  pub input_left : Option (List ℕ)
  pub output : Held
  pub output_now : Held

abbrev pub streams : Bool → Option (List ℕ) → Option (List ℕ) → Held → Held → Streams
streams can_fail input input_left output output_now =
    record { can_fail = can_fail; input = input; input_left = input_left; output = output; output_now = output_now }

-- no message stands in bytes, and the task wants one
abbrev pub lacks_message : Task → List ℕ → Bool
lacks_message task bytes = wants_message task && length bytes == 0

-- this text is what is printed of the messages of an input, up to the first fault
pub record HasText (names : Names) (job : Job) (input text : List ℕ) (place : Option Place) : Type 0 where
  pub bytes : List ℕ
  pub stands : Stands job.encoding input bytes
  pub prints : Prints names job.task bytes text place

-- the whole input was taken, all its messages are whole, there is one if the task wants that, and exactly what is printed of
-- them was appended to the output
pub record Printed (names : Names) (job : Job) (s : Streams) : Type 0 where
  pub input : List ℕ
  pub text : List ℕ
  pub taken : TakesAll s.input s.input_left input
  pub has : HasText names job input text None
  pub some : lacks_message job.task has.bytes ≡ false
  pub appended : Gets s.output s.output_now text

-- the whole input was taken, it stands for no bytes, and the task wants a message; nothing was appended
pub record Empty (job : Job) (s : Streams) : Type 0 where
  pub input : List ℕ
  pub taken : TakesAll s.input s.input_left input
  pub stands : Stands job.encoding input []
  pub wants : wants_message job.task ≡ true
  pub appended : Gets s.output s.output_now []

-- behind a front of the input, or all of it, stands a message that is wrong, whatever follows; and exactly what is printed up to
-- its fault was appended to the output
pub record Faults (names : Names) (job : Job) (s : Streams) (place : Place) : Type 0 where
  pub input : List ℕ
  pub bytes : List ℕ
  pub last : Bool
  pub text : List ℕ
  pub taken : TakesSome s.input s.input_left input
  pub stands : StandsUpTo job.encoding input bytes last
  pub prints : (more : List ℕ) → (last ≡ true → more ≡ []) → MessageBreaks names job.task (bytes ++ more) text place
  pub appended : Gets s.output s.output_now text

-- and this line says so
pub record Breaks (names : Names) (job : Job) (s : Streams) (line : List ℕ) : Type 0 where
  pub place : Place
  pub faults : Faults names job s place
  pub says : line ≡ fault_line names job.name.now (place_told job.task place)

-- for this reason a beginning of what is printed of the input was appended to the output, whatever follows the bytes that a front
-- of it, or all of it, stands for
pub record Unwritten (names : Names) (job : Job) (s : Streams) (why : RunError) : Type 0 where
  pub input : List ℕ
  pub bytes : List ℕ
  pub last : Bool
  pub text : List ℕ
  pub taken : TakesSome s.input s.input_left input
  pub stands : StandsUpTo job.encoding input bytes last
  pub continues : (more : List ℕ) → (last ≡ true → more ≡ []) → AreBytes more → Continues names job.task (bytes ++ more) text
  pub appended : PrintsFront why s.output s.output_now text

-- exactly what is printed of the messages that are whole among bytes was appended to the output
pub record Fronts (names : Names) (task : Task) (bytes : List ℕ) (output output_now : Held) : Type 0 where
  pub place : ℕ
  pub text : List ℕ
  pub whole : Whole names task bytes place text
  pub no_more : is_there (drop place bytes) ≡ false
  pub appended : Gets output output_now text

-- exactly what is printed of the messages that are whole among the bytes of a text up to a rest was appended to the output
pub record TextFronts
    (names : Names) (task : Task) (form : Form) (s rest : List ℕ) (output output_now : Held) : Type 0 where
  pub bytes : List ℕ
  pub decodes : DecodesTo form s bytes rest
  pub fronts : Fronts names task bytes output output_now

-- for this reason the input stands for no bytes, and exactly what is printed of the messages that are whole in front of the error
-- was appended
pub record Undecoded (names : Names) (job : Job) (s : Streams) (m : Misread) : Type 0 where
  pub input : List ℕ
  pub misreads : Misreads job.encoding input m
  pub taken : TakesSome s.input s.input_left input
  pub fronts : TextFronts names job.task misreads.form input (drop m.offset input) s.output s.output_now

-- these bytes came before reading failed, raw or a text, and exactly what is printed of the messages that are whole was appended:
-- of a text those in front of the last character or behind it
abbrev pub FrontsIn : Option Form → Names → Task → List ℕ → Held → Held → Type 0
FrontsIn None names task s output output_now = Fronts names task s output output_now
FrontsIn (Some form) names task s output output_now =
    (rest : List ℕ) × (length rest ≤ 1) × TextFronts names task form s rest output output_now

-- or nothing, where they don't decide the encoding
abbrev pub FrontsIf : Bool → Names → Job → List ℕ → Held → Held → Type 0
FrontsIf true names job bytes output output_now = Rests output output_now
FrontsIf false names job bytes output output_now =
    FrontsIn (form_of (encoding_of job.encoding bytes)) names job.task bytes output output_now

-- these bytes came before reading failed, and what is said above was printed of them
pub record Unread (names : Names) (job : Job) (s : Streams) : Type 0 where
  pub bytes : List ℕ
  pub taken : Consumes s.input s.input_left bytes
  pub fronts : FrontsIf (nat_lt (length bytes) (front_size job.encoding bytes)) names job bytes s.output s.output_now

-- why a run ends with status 2 or 3, and what it did by then
abbrev pub Fails : Names → Job → Streams → RunError → Type 0
Fails names job s UnreadableInput = IsTrue s.can_fail × Unread names job s
Fails names job s UnwritableOutput = Unwritten names job s UnwritableOutput
Fails names job s ClosedPipe = Unwritten names job s ClosedPipe
Fails names job s NoMemory = Rests s.output s.output_now ⊎ Unwritten names job s NoMemory
Fails names job s (MisreadInput m) = Undecoded names job s m
Fails names job s NoMessage = Empty job s
Fails names job s UnopenedInput = ⊥
Fails names job s NotUtf8 = ⊥

-- what comes of an input whose messages are whole, and take so many bytes
abbrev pub behind_all : Task → ℕ → Result (Option Place) RunError
behind_all task count = if wants_message task && count == 0 then Err NoMessage else Ok None

-- what is printed for a job, up to the first fault
abbrev pub Places : Names → Job → Streams → Result (Option Place) RunError → Type 0
Places names job s (Ok None) = Printed names job s
Places names job s (Ok (Some place)) = Faults names job s place
Places names job s (Err why) = Fails names job s why

-- the whole input was taken, and this text is what its diagnostics are read back as; and the first line that is not
-- whole stops being a diagnostic here, or all lines are whole
pub record HasBack
    (names : Names) (prefix : List ℕ) (s : Streams) (text : List ℕ) (fault : Option BackFault) : Type 0 where
  pub input : List ℕ
  pub taken : TakesAll s.input s.input_left input
  pub is_text : IsUtf8 input
  pub is : text ≡ text_back names.tags prefix input
  pub first : FirstBreak prefix 0 (lines_of input) fault

-- exactly that was appended to the output
pub record PrintedBack (names : Names) (prefix : List ℕ) (s : Streams) (fault : Option BackFault) : Type 0 where
  pub text : List ℕ
  pub has : HasBack names prefix s text fault
  pub appended : Gets s.output s.output_now text

-- exactly what the whole lines among the bytes that came before reading failed are read back as was appended
pub record UnreadBack (names : Names) (prefix : List ℕ) (s : Streams) : Type 0 where
  pub bytes : List ℕ
  pub taken : Consumes s.input s.input_left bytes
  pub place : ℕ
  pub text : List ℕ
  pub reads : ReadsLines names.tags prefix bytes place text
  pub one_line : IsOneLine (drop place bytes)
  pub appended : Gets s.output s.output_now text

-- a line of the input is no text, and so is the input; exactly what the lines before it are read back as was appended
pub record NoTextBack (names : Names) (prefix : List ℕ) (s : Streams) : Type 0 where
  pub input : List ℕ
  pub taken : TakesSome s.input s.input_left input
  pub no_text : IsUtf8 input → ⊥
  pub place : ℕ
  pub text : List ℕ
  pub reads : ReadsLines names.tags prefix input place text
  pub line : List ℕ
  pub others : List (List ℕ)
  pub first : lines_of (drop place input) ≡ line ∷ others
  pub line_no_text : IsUtf8 line → ⊥
  pub appended : Gets s.output s.output_now text

-- a beginning of what lines in front of the input, or all of it, are read back as was appended; those lines are text
pub record UnwrittenBack (names : Names) (prefix : List ℕ) (s : Streams) (why : RunError) : Type 0 where
  pub input : List ℕ
  pub fault : Option BackFault
  pub taken : TakesSome s.input s.input_left input
  pub first : FirstBreak prefix 0 (lines_of input) fault
  pub front : List ℕ
  pub more : List ℕ
  pub are : input ≡ front ++ more
  pub ends : AreLines front ⊎ (more ≡ [])
  pub is_text : IsUtf8 front
  pub rest : List ℕ
  pub is : text_back names.tags prefix input ≡ text_back names.tags prefix front ++ rest
  pub appended : PrintsFront why s.output s.output_now (text_back names.tags prefix front)

-- why reading back ended early, and what was printed by then
abbrev pub FailsBack : Names → List ℕ → Streams → RunError → Type 0
FailsBack names prefix s UnreadableInput = IsTrue s.can_fail × UnreadBack names prefix s
FailsBack names prefix s NotUtf8 = NoTextBack names prefix s
FailsBack names prefix s UnwritableOutput = UnwrittenBack names prefix s UnwritableOutput
FailsBack names prefix s ClosedPipe = UnwrittenBack names prefix s ClosedPipe
FailsBack names prefix s NoMemory = UnwrittenBack names prefix s NoMemory
FailsBack names prefix s _ = ⊥

abbrev pub RespondsBack : Names → List ℕ → Streams → Result (Option BackFault) RunError → Type 0
RespondsBack names prefix s (Ok fault) = PrintedBack names prefix s fault
RespondsBack names prefix s (Err why) = FailsBack names prefix s why
