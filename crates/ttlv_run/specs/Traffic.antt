-- What is printed of a packet capture, and what is said of it.
use Rattle.std.specs.Prelude.{◌≡◌, ◌⊎◌, ℕ, ◌+◌, ◌-◌, ◌<◌, ◌≤◌, ◌^◌, Bool, true, false, not, ◌&&◌, ◌==◌, List, [], ◌∷◌, ◌++◌, length, take, nat_lt, min, codes}
use Rattle.std.specs.Prelude.{is_none, IsTrue, Option, Some, None, Result, Ok, Err, if◌then◌else◌, string_bytes}
use Rattle.std.specs.Fmt.{decimal}
use Rattle.std.specs.Io.KnownBytes.{Consumes, IsAtEnd}
use Rattle.kmip_ttlv_types.specs.Held.{Held, Gets, Rests, Says}
use Rattle.ttlv_packets.specs.declared.flow.Flow.{Flow}
use Rattle.ttlv_packets.specs.declared.message.Message.{Message}
use Rattle.ttlv_packets.specs.Captures.{IsRead}
use Rattle.ttlv_packets.specs.Numbers.{part}
use Rattle.ttlv_run.specs.declared.job.Job.{Job}
use Rattle.ttlv_run.specs.declared.job.Task.{Task}
use Rattle.ttlv_run.specs.declared.job.Task.TheVariants.{Show, Whole as OfWhole, Check}
use Rattle.ttlv_run.specs.declared.job.Strict.TheVariants.{Show as ShowWhole}
use Rattle.ttlv_run.specs.declared.kind.InputKind.{InputKind}
use Rattle.ttlv_run.specs.declared.kind.InputKind.TheVariants.{Tls}
use Rattle.ttlv_run.specs.declared.messages.Place.{Place}
use Rattle.ttlv_run.specs.declared.traffic.Notes.{Notes as Written}
use Rattle.ttlv_run.specs.declared.run_error.RunError.{RunError}
use Rattle.ttlv_run.specs.declared.run_error.RunError.TheVariants.{UnreadableInput, UnwritableOutput, ClosedPipe, NoMemory}
use Rattle.ttlv_run.specs.Escapes.{escape}
use Rattle.ttlv_run.specs.Fronts.{front_size}
use Rattle.ttlv_run.specs.Inputs.{TakesAll, encoding_of, port_of}
use Rattle.ttlv_run.specs.declared.job.Encoding.{Encoding}
use Rattle.ttlv_run.specs.Messages.{Prints, Continues, fault_line, place_told, kind_at}
use Rattle.ttlv_run.specs.Peers.{flow_text, message_line}
use Rattle.ttlv_run.specs.Reasons.{IsOfPrinting, PrintsFront}
use Rattle.ttlv_run.specs.Runs.{Streams}
use Rattle.ttlv_run.specs.Texts.{Names}

-- a task prints readable lines of items
abbrev pub prints_lines : Task → Bool
prints_lines (Show look) = is_none look.path
prints_lines (OfWhole (ShowWhole look)) = is_none look.path
prints_lines task = false

-- what a stream of an input is called
abbrev pub stream_name : List ℕ → Flow → List ℕ
stream_name name flow = name ++ (codes ": " ++ flow_text flow)

-- a place in a message, counted from the first byte of its stream
abbrev pub moved : Message → Place → Place
moved m place = record { offset = min (m.offset + place.offset) (2 ^ 64 - 1); tag = place.tag; wrong = place.wrong }

-- the bytes of a message; none of a gap
abbrev pub message_bytes : List ℕ → Message → List ℕ
message_bytes bytes m = part bytes m.start m.size

-- the line in front of it, in front of readable lines
abbrev pub head : Task → Message → List ℕ
head task m = if prints_lines task && not m.gap then message_line m else []

-- the line of a gap
unfoldable pub gap_line : List ℕ → Message → List ℕ
gap_line name m =
    escape (stream_name name m.flow)
    ++ (codes ": byte " ++ (decimal m.offset ++ codes ": bytes are missing from the capture here, and the rest of this direction isn't read\n"))

-- how to see what an encrypted connection carries
abbrev pub hint : Option InputKind → List ℕ
hint (Some Tls) = codes "To see what TLS carries: tshark -o tls.keylog_file:FILE\n"
hint kind = []

-- the line of a fault of a message, or of a gap
abbrev pub trouble : Names → Job → Message → Option Place → Option (List ℕ)
trouble names job m (Some place) =
    Some (fault_line names (stream_name job.name.now m.flow) (place_told job.task (moved m place)) ++ hint (kind_at (moved m place)))
trouble names job m None = if m.gap then Some (gap_line job.name.now m) else None

-- what is wrong with a capture: how many things, and the lines of the first hundred
pub record Notes : Type 0 where
  pub count : ℕ
  pub lines : List ℕ

abbrev pub no_notes : Notes
no_notes = record { count = 0; lines = [] }

-- with another line, if there is one
abbrev pub noted : Notes → Option (List ℕ) → Notes
noted n None = n
noted n (Some line) = record { count = min (n.count + 1) (2 ^ 64 - 1); lines = if nat_lt n.count 100 then n.lines ++ line else n.lines }

-- this is printed of a message, up to its fault if it has one
pub record PrintsMessage (names : Names) (job : Job) (bytes : List ℕ) (m : Message) (text : List ℕ) (place : Option Place) : Type 0 where
  pub lines : List ℕ
  pub prints : Prints names job.task (message_bytes bytes m) lines place
  pub is : text ≡ head job.task m ++ lines

-- a beginning of it
pub data BreaksMessage (names : Names) (job : Job) (bytes : List ℕ) (m : Message) (text : List ℕ) : Type 0 where
  in_head : (more : List ℕ) → text ++ more ≡ head job.task m → BreaksMessage names job bytes m text
  in_lines :
      (lines : List ℕ) → Continues names job.task (message_bytes bytes m) lines → text ≡ head job.task m ++ lines
      → BreaksMessage names job bytes m text

-- of messages one after the other this is printed, and this is wrong with them
pub data PrintsAll (names : Names) (job : Job) (bytes : List ℕ) : List Message → List ℕ → Notes → Type 0 where
  of_none : PrintsAll names job bytes [] [] no_notes
  of_more :
      (ms : List Message) (m : Message) (text more : List ℕ) (notes : Notes) (place : Option Place)
      → PrintsAll names job bytes ms text notes → PrintsMessage names job bytes m more place
      → PrintsAll names job bytes (ms ++ m ∷ []) (text ++ more) (noted notes (trouble names job m place))

-- all of them were printed
pub record PrintsPackets
    (names : Names) (job : Job) (bytes : List ℕ) (messages : List Message) (output output_now : Held) (notes : Notes) : Type 0 where
  pub text : List ℕ
  pub prints : PrintsAll names job bytes messages text notes
  pub appended : Gets output output_now text

-- nothing, or a beginning of what is printed of a message
abbrev pub BeginsMessage : Names → Job → List ℕ → List Message → List ℕ → Type 0
BeginsMessage names job bytes messages part = (part ≡ []) ⊎ ((m : Message) × BreaksMessage names job bytes m part)

-- some were printed, and a beginning of the next one or nothing, for this reason
pub record BreaksPackets
    (names : Names) (job : Job) (bytes : List ℕ) (messages : List Message) (output output_now : Held) (why : RunError) : Type 0 where
  pub count : ℕ
  pub text : List ℕ
  pub notes : Notes
  pub part : List ℕ
  pub of_printing : IsOfPrinting why
  pub prints : PrintsAll names job bytes (take count messages) text notes
  pub begun : BeginsMessage names job bytes messages part
  pub appended : PrintsFront why output output_now (text ++ part)

-- the capture ends with a part that isn't there as a whole, or with none that is known
unfoldable pub damage_line : List ℕ → ℕ → List ℕ
damage_line name end =
    escape name ++ (codes ": byte " ++ (decimal end ++ codes ": the packet capture is cut off or damaged here, and the rest of it isn't read\n"))

abbrev pub damage : Job → List ℕ → ℕ → Option (List ℕ)
damage job input end = if end == length input then None else Some (damage_line job.name.now end)

-- it has no message on the port, and the task wants one
unfoldable pub absence_line : List ℕ → ℕ → List ℕ
absence_line name port = escape name ++ (codes ": no message on TCP port " ++ (decimal port ++ codes " (--port)\n"))

abbrev pub takes_none : Task → Bool
takes_none (Check kmip empty) = empty
takes_none task = false

abbrev pub absence : Job → ℕ → List Message → Option (List ℕ)
absence job port messages =
    if length messages == 0 && not (takes_none job.task) then Some (absence_line job.name.now port) else None

-- how many more things are wrong
unfoldable pub rest_line : List ℕ → ℕ → List ℕ
rest_line name count = if nat_lt 100 count then escape name ++ (codes ": " ++ (decimal (count - 100) ++ codes " more\n")) else []

-- all that is wrong
abbrev pub all_notes : Job → List ℕ → ℕ → ℕ → List Message → Notes → Notes
all_notes job input port end messages notes = noted (noted notes (damage job input end)) (absence job port messages)

-- and the lines that say so
abbrev pub said : List ℕ → Notes → List ℕ
said name notes = notes.lines ++ rest_line name notes.count

-- a front of an input is all of it, or decides what it is
abbrev pub Decides : Encoding → Option (List ℕ) → List ℕ → Type 0
Decides e left front = IsAtEnd left ⊎ (front_size e front ≤ length front)

-- such a front of the input was taken: it is a capture whose messages are those of a port, or none
pub record Took (e : Encoding) (s : Streams) (port : Option ℕ) : Type 0 where
  pub front : List ℕ
  pub left : Option (List ℕ)
  pub taken : Consumes s.input left front
  pub decides : Decides e left front
  pub port_is : port_of (encoding_of e front) ≡ port

-- the whole input was taken, it is a capture, and this is what it carries on the port
pub record HasPackets (job : Job) (s : Streams) : Type 0 where
  pub port : ℕ
  pub took : Took job.encoding s (Some port)
  pub input : List ℕ
  pub taken : TakesAll s.input s.input_left input
  pub bytes : List ℕ
  pub messages : List Message
  pub end : ℕ
  pub read : IsRead input port bytes messages end

-- all its messages were printed, and this is wrong with it
pub record PrintedPackets (names : Names) (job : Job) (s : Streams) (notes : Notes) : Type 0 where
  pub has : HasPackets job s
  pub of_messages : Notes
  pub printed : PrintsPackets names job has.bytes has.messages s.output s.output_now of_messages
  pub all : notes ≡ all_notes job has.input has.port has.end has.messages of_messages

-- nothing is
abbrev pub WholePackets : Names → Job → Streams → Type 0
WholePackets names job s = (notes : Notes) × PrintedPackets names job s notes × (notes.count ≡ 0)

-- something is, and these lines say so
abbrev pub TroubledPackets : Names → Job → Streams → List ℕ → Type 0
TroubledPackets names job s lines =
    (notes : Notes) × PrintedPackets names job s notes × (0 < notes.count) × (lines ≡ said job.name.now notes)

-- a beginning of what is printed of it was, for this reason
pub record UnwrittenPackets (names : Names) (job : Job) (s : Streams) (why : RunError) : Type 0 where
  pub has : HasPackets job s
  pub breaks : BreaksPackets names job has.bytes has.messages s.output s.output_now why

-- the input is a capture, and nothing was printed of it
abbrev pub UnreadPackets : Job → Streams → Type 0
UnreadPackets job s = ((port : ℕ) × Took job.encoding s (Some port)) × Rests s.output s.output_now

-- why a run over a capture ended early, and what was printed by then: nothing of one that was not read to its end
abbrev pub FailsPackets : Names → Job → Streams → RunError → Type 0
FailsPackets names job s UnreadableInput = IsTrue s.can_fail × UnreadPackets job s
FailsPackets names job s UnwritableOutput = UnwrittenPackets names job s UnwritableOutput
FailsPackets names job s ClosedPipe = UnwrittenPackets names job s ClosedPipe
FailsPackets names job s NoMemory = Rests s.output s.output_now ⊎ UnwrittenPackets names job s NoMemory
FailsPackets names job s _ = ⊥

-- a text goes on as another
abbrev pub IsFrontOf : List ℕ → List ℕ → Type 0
IsFrontOf all front = (more : List ℕ) × (front ++ more ≡ all)

-- what came of a capture
abbrev pub RespondsPackets : Names → Job → Streams → Held → Held → Result Bool RunError → Type 0
RespondsPackets names job s errors errors_now (Ok true) = WholePackets names job s × (errors_now ≡ errors)
RespondsPackets names job s errors errors_now (Ok false) =
    (lines : List ℕ) × TroubledPackets names job s lines × Says errors errors_now lines
RespondsPackets names job s errors errors_now (Err why) = FailsPackets names job s why × (errors_now ≡ errors)

-- what a value of the program stands for
abbrev pub notes_of : {A : Type 0} → Written A → Notes
notes_of n = record { count = n.count; lines = string_bytes n.lines }
