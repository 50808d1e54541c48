-- The texts that the program prints, and why it prints none.
use Rattle.std.specs.Prelude.{◌≡◌, ◌≢◌, ℕ, ℤ, Bool, false, List, [], ◌∷◌, ◌++◌, ◌==◌, ◌-◌, if◌then◌else◌, length}
use Rattle.std.specs.Prelude.{slice_get, Option, Some, None, Result, Ok, Err, IsErr, codes}
use Rattle.kmip_ttlv_base.specs.declared.error.Error.{Error}
use Rattle.kmip_ttlv_base.specs.declared.error.ErrorKind.TheVariants.{OutOfMemory}
use Rattle.kmip_ttlv.specs.Errors.{kind_of}
use Rattle.kmip_ttlv.specs.Values.{Value}
use Rattle.kmip_ttlv.specs.Reads.{Begins}
use Rattle.kmip_ttlv.specs.Traces.{trace}
use Rattle.kmip_ttlv.specs.Diagnostics.{hostile}
use Rattle.kmip_ttlv.specs.Trees.{Tree, IsTreeText, IsStructure, HasNoEmpty}
use Rattle.kmip_ttlv.specs.Outlines.{diag, outline_of}
use Rattle.kmip_ttlv.specs.Pretty.{IsPrinted, pretty}
use Rattle.kmip_ttlv.specs.Undiag.{undiag}
use Rattle.kmip_ttlv.specs.TagNames.{no_names}
use Rattle.hex_to_txt_run.specs.Inputs.{decoded, CutText, CutNoText}
use Rattle.hex_to_txt_run.specs.Pair.{pair_form, read_pair, pair_text}
use Rattle.hex_to_txt_run.specs.Tasks.{Task, pair_task, readable_task, diagnostic_task, read_back_task}
use Rattle.hex_to_txt_run.specs.Reasons.{Reason, not_hexadecimal, not_utf8, not_a_pair, no_memory}

-- the input's bytes begin with a pair, and this is its text
pub record PrintsPair (input text : List ℕ) : Type 0 where
  pub bytes : List ℕ
  pub first : ℤ
  pub second : ℤ
  pub decodes : decoded input ≡ Ok bytes
  pub begins : Begins pair_form bytes (read_pair first second)
  pub prints : text ≡ pair_text first second

-- whether there is a character, and it is a line feed
abbrev pub is_line_feed : Option ℕ → Bool
is_line_feed None = false
is_line_feed (Some c) = c == 10

-- a text, and a line feed if it doesn't end with one
abbrev pub ended : List ℕ → List ℕ
ended text = if is_line_feed (slice_get text (length text - 1)) then text else text ++ 10 ∷ []

-- a well-formed message, which has no empty structure unless these are closed
pub record IsMessage (closed : Bool) (t : Tree) (bytes : List ℕ) : Type 0 where
  pub text : IsTreeText t bytes
  pub root : IsStructure t
  pub full : closed ≡ false → HasNoEmpty t

-- the readable text of the input's bytes, ended by a line feed; for a well-formed message its lines, and nothing else
pub record PrintsReadable (input text : List ℕ) : Type 0 where
  pub bytes : List ℕ
  pub readable : List ℕ
  pub decodes : decoded input ≡ Ok bytes
  pub is : IsPrinted no_names false bytes readable
  pub prints : text ≡ ended readable
  pub message : (t : Tree) → IsMessage false t bytes → text ≡ pretty no_names 0 t

-- the diagnostic of the input's bytes and a line feed; for a well-formed message that of its outline
pub record PrintsDiagnostic (closed : Bool) (prefix input text : List ℕ) : Type 0 where
  pub bytes : List ℕ
  pub decodes : decoded input ≡ Ok bytes
  pub prints : text ≡ hostile prefix closed (length bytes) (trace closed bytes) ++ 10 ∷ []
  pub message : (t : Tree) → IsMessage closed t bytes → text ≡ diag prefix (outline_of t) ++ 10 ∷ []

-- the input without trailing line feeds and carriage returns is a text; what this diagnostic is read
-- back as, and a line feed
pub record PrintsReadBack (prefix input text : List ℕ) : Type 0 where
  pub diagnostic : List ℕ
  pub cut : CutText input diagnostic
  pub prints : text ≡ undiag no_names prefix diagnostic ++ 10 ∷ []

-- the text that a task prints for an input
abbrev pub TaskPrints : Task → List ℕ → List ℕ → Type 0
TaskPrints pair_task input text = PrintsPair input text
TaskPrints readable_task input text = PrintsReadable input text
TaskPrints (diagnostic_task closed prefix) input text = PrintsDiagnostic closed prefix input text
TaskPrints (read_back_task prefix) input text = PrintsReadBack prefix input text

-- an error line for a message: some words after `refused: `
pub record IsErrorLine (line : List ℕ) : Type 0 where
  pub words : List ℕ
  pub is : line ≡ codes "refused: " ++ (words ++ codes "\n")

-- a decoding error as a reason: out of memory, or a line for any other error
abbrev pub IsReasonOf : {A : Type 0} → Error A → Reason → Type 0
IsReasonOf e no_memory = Unit {0}
IsReasonOf e (not_a_pair line) = IsErrorLine line × (kind_of e ≢ OutOfMemory)
IsReasonOf e _ = ⊥

-- the input's bytes begin with no pair
pub record HasNoPair (input : List ℕ) : Type 0 where
  pub bytes : List ℕ
  pub decodes : decoded input ≡ Ok bytes
  pub none : (v : Value) → Begins pair_form bytes v → ⊥

-- why a task prints no text for an input
abbrev pub TaskFails : Task → List ℕ → Reason → Type 0
TaskFails task input no_memory = Unit {0}
TaskFails (read_back_task prefix) input not_utf8 = CutNoText input
TaskFails (read_back_task prefix) input _ = ⊥
TaskFails task input not_hexadecimal = IsErr (decoded input)
TaskFails pair_task input (not_a_pair line) = HasNoPair input × IsErrorLine line
TaskFails task input _ = ⊥

-- the result for an input: its text, or why there is none
abbrev pub TaskReturns : {T E : Type 0} → (T → List ℕ) → (E → Reason) → Task → List ℕ → Result T E → Type 0
TaskReturns bytes reason task input (Ok text) = TaskPrints task input (bytes text)
TaskReturns bytes reason task input (Err e) = TaskFails task input (reason e)
