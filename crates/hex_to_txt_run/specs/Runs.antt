-- What a run of the program reads, prints and reports.
use Rattle.std.specs.Prelude.{ℕ, Bool, IsTrue, List, length, Option, Some, None, Result, Ok, Err, ◌⊎◌}
use Rattle.std.specs.Io.KnownBytes.{Appends, Keeps}
use Rattle.kmip_ttlv.specs.Streams.{AppendsFront, IsTight}
use Rattle.hex_to_txt_run.specs.Inputs.{TakesAll}
use Rattle.hex_to_txt_run.specs.Reasons.{Reason, unknown_words, unreadable_input, unwritable_output, no_memory}
use Rattle.hex_to_txt_run.specs.Reasons.{line_of}
use Rattle.hex_to_txt_run.specs.Tasks.{Task}
use Rattle.hex_to_txt_run.specs.TaskTexts.{TaskPrints, TaskFails}

-- whether the input can fail, what it has, what the output holds and has room for, before and after a run, as far as it is known
pub record Streams : Type 0 where
  pub can_fail : Bool
  pub input : Option (List ℕ)
  pub input_left : Option (List ℕ)
  pub room : Option ℕ
  pub output : Option (List ℕ)
  pub output_now : Option (List ℕ)

abbrev pub streams : Bool → Option (List ℕ) → Option (List ℕ) → Option ℕ → Option (List ℕ) → Option (List ℕ) → Streams
streams can_fail input input_left room output output_now = record {
  can_fail = can_fail;
  input = input;
  input_left = input_left;
  room = room;
  output = output;
  output_now = output_now;
}

-- the text that the arguments ask for
abbrev pub Prints : Option Task → List ℕ → List ℕ → Type 0
Prints None input text = ⊥
Prints (Some task) input text = TaskPrints task input text

-- the whole input was read, and exactly its text was appended to the output
pub record Printed (task : Option Task) (s : Streams) : Type 0 where
  pub input : List ℕ
  pub text : List ℕ
  pub taken : TakesAll s.input s.input_left input
  pub prints : Prints task input text
  pub appended : Appends s.output s.output_now text

-- the whole input was read, and this is why it has no text
pub record Unprinted (task : Task) (s : Streams) (why : Reason) : Type 0 where
  pub input : List ℕ
  pub taken : TakesAll s.input s.input_left input
  pub fails : TaskFails task input why

-- the whole input was read, and a beginning of its text was appended to the output, which has no room for it, if that is known
pub record Unwritten (task : Task) (s : Streams) : Type 0 where
  pub input : List ℕ
  pub text : List ℕ
  pub taken : TakesAll s.input s.input_left input
  pub prints : TaskPrints task input text
  pub appended : AppendsFront s.output s.output_now text
  pub tight : IsTight s.room (length text)

-- why a run ends with status 1, and what it did until then: the output is unchanged, unless it can't be
-- written; the input isn't unreadable if it can't fail
abbrev pub Fails : Option Task → Streams → Reason → Type 0
Fails None s unknown_words = Keeps s.input s.input_left × Keeps s.output s.output_now
Fails None s _ = ⊥
Fails (Some task) s unknown_words = ⊥
Fails (Some task) s unreadable_input = IsTrue s.can_fail × Keeps s.output s.output_now
Fails (Some task) s unwritable_output = Unwritten task s
Fails (Some task) s no_memory = Keeps s.output s.output_now
Fails (Some task) s why = Unprinted task s why × Keeps s.output s.output_now

-- the result for the arguments: the text is printed, or there is a reason why not
abbrev pub Responds : {T E : Type 0} → (E → Reason) → Option Task → Streams → Result T E → Type 0
Responds reason task s (Ok x) = Printed task s
Responds reason task s (Err e) = Fails task s (reason e)

-- a line was appended to the errors, or a beginning of it if they have no room for it, or that isn't known
abbrev pub Reports : Option (List ℕ) → Option ℕ → Option (List ℕ) → List ℕ → Type 0
Reports errors room errors_now line =
    Appends errors errors_now line ⊎ (AppendsFront errors errors_now line × IsTight room (length line))

-- there is a reason, and its line was appended to the errors, as far as they have room
pub record Failed (task : Option Task) (s : Streams) (errors : Option (List ℕ)) (room : Option ℕ) (errors_now : Option (List ℕ)) : Type 0 where
  pub why : Reason
  pub fails : Fails task s why
  pub reported : Reports errors room errors_now (line_of why)

-- the input has no text
abbrev pub HasNoText : Option Task → Option (List ℕ) → Type 0
HasNoText task None = ⊥
HasNoText task (Some input) = (text : List ℕ) → Prints task input text → ⊥
