-- What is made of what was printed of an input: that is printed into memory, and what is made of it sent when all of the input was read.
use Rattle.std.specs.Prelude.{◌≡◌, ◌⊎◌, ℕ, Bool, true, false, List, [], ◌++◌, codes, Some, Result, Ok, Err}
use Rattle.kmip_ttlv_types.specs.Held.{Held, Gets, Rests, Says}
use Rattle.ttlv_run.specs.declared.job.Job.{Job}
use Rattle.ttlv_run.specs.declared.job.Product.{Product}
use Rattle.ttlv_run.specs.declared.run_error.RunError.{RunError}
use Rattle.ttlv_run.specs.declared.run_error.RunError.TheVariants.{NoMemory}
use Rattle.ttlv_run.specs.Escapes.{escape}
use Rattle.ttlv_run.specs.Prints.{IsWholePrint, IsMalformedPrint, EndsPrint}
use Rattle.ttlv_run.specs.Products.{IsMadeOf, LacksFor}
use Rattle.ttlv_run.specs.Reasons.{IsOfPrinting, PrintsFront}
use Rattle.ttlv_run.specs.Runs.{Streams}
use Rattle.ttlv_run.specs.Texts.{Names}

-- memory was empty, and holds this now
pub record Gathered (text : List ℕ) : Type 0 where
  pub old : Held
  pub now : Held
  pub empty : old.pending ≡ Some []
  pub holds : now.pending ≡ Some text

-- a run whose output is memory
abbrev pub gathering : {text : List ℕ} → Streams → Gathered text → Streams
gathering s m = record s { output = m.old; output_now = m.now }

-- what is made of a text was sent, or nothing is made of it
pub data Sends (product : Product) (text : List ℕ) (old new : Held) : Type 0 where
  sends : (made : List ℕ) → IsMadeOf product text made → Gets old new made → Sends product text old new
  sends_none : (words : List ℕ) → LacksFor product text words → Gets old new [] → Sends product text old new

-- a beginning of what is made of it was sent, for this reason, or nothing as memory ran out
pub data Unsent (product : Product) (text : List ℕ) (old new : Held) (why : RunError) : Type 0 where
  unsent : (made : List ℕ) → IsMadeOf product text made → IsOfPrinting why → PrintsFront why old new made → Unsent product text old new why
  unmade : why ≡ NoMemory → Gets old new [] → Unsent product text old new why

-- the line that says why nothing is made of an input
abbrev pub lack_line : List ℕ → List ℕ → List ℕ
lack_line name words = escape name ++ codes ": " ++ words ++ codes "\n"

-- what is sent of a text, where this came of the input
abbrev pub SendsMade : Product → List ℕ → Result Bool RunError → List ℕ → Held → Held → Held → Held → Result Bool RunError → Type 0
SendsMade product text (Ok true) name old new errors errors_now (Ok true) =
    (made : List ℕ) × IsMadeOf product text made × Gets old new made × (errors_now ≡ errors)
SendsMade product text (Ok true) name old new errors errors_now (Ok false) =
    (words : List ℕ) × LacksFor product text words × Gets old new [] × Says errors errors_now (lack_line name words)
SendsMade product text (Ok false) name old new errors errors_now (Ok true) = ⊥
SendsMade product text (Ok false) name old new errors errors_now (Ok false) = Sends product text old new × (errors_now ≡ errors)
SendsMade product text (Ok whole) name old new errors errors_now (Err why) = Unsent product text old new why × (errors_now ≡ errors)
SendsMade product text (Err early) name old new errors errors_now (Ok whole) = ⊥
SendsMade product text (Err early) name old new errors errors_now (Err why) =
    (((why ≡ early) × Sends product text old new) ⊎ Unsent product text old new why) × (errors_now ≡ errors)

-- the input is whole, and exactly what is made of what is printed of it was appended
pub record MadeAll (names : Names) (job : Job) (product : Product) (s : Streams) : Type 0 where
  pub text : List ℕ
  pub memory : Gathered text
  pub printed : IsWholePrint names job (gathering s memory)
  pub made : List ℕ
  pub is : IsMadeOf product text made
  pub appended : Gets s.output s.output_now made

-- nothing is made of it, or it is malformed, and this line says so; then what is made of what is printed in front of the fault was
-- appended
pub data MadeLess (names : Names) (job : Job) (product : Product) (s : Streams) (line : List ℕ) : Type 0 where
  lacks :
      (text : List ℕ) (m : Gathered text) (words : List ℕ)
      → IsWholePrint names job (gathering s m) → LacksFor product text words → line ≡ lack_line job.name.now words → Gets s.output s.output_now []
      → MadeLess names job product s line
  malformed :
      (text : List ℕ) (m : Gathered text) → IsMalformedPrint names job (gathering s m) line → Sends product text s.output s.output_now
      → MadeLess names job product s line

-- something came of printing an input into memory
pub data IsPrinted (names : Names) (job : Job) (s : Streams) : Type 0 where
  whole : IsWholePrint names job s → IsPrinted names job s
  malformed_print : (line : List ℕ) → IsMalformedPrint names job s line → IsPrinted names job s
  ended : (before : RunError) → EndsPrint names job s before → IsPrinted names job s

-- it ended early for this reason, and what is made of what was printed by then was appended; or that was not made or not all sent,
-- whatever came of printing
pub data FailsToMake (names : Names) (job : Job) (product : Product) (s : Streams) (why : RunError) : Type 0 where
  early :
      (text : List ℕ) (m : Gathered text) → EndsPrint names job (gathering s m) why → Sends product text s.output s.output_now
      → FailsToMake names job product s why
  not_sent :
      (text : List ℕ) (m : Gathered text) → IsPrinted names job (gathering s m) → Unsent product text s.output s.output_now why
      → FailsToMake names job product s why

-- nothing was said of the input, or that it is malformed
abbrev pub SaysFaults : Names → Job → Streams → Held → Held → Type 0
SaysFaults names job s errors said =
    (said ≡ errors)
    ⊎ ((text : List ℕ) × (m : Gathered text) × (line : List ℕ) × IsMalformedPrint names job (gathering s m) line × Says errors said line)

-- what came of an input of which something is made
abbrev pub RespondsGather : Names → Job → Product → Streams → Held → Held → Result Bool RunError → Type 0
RespondsGather names job product s errors errors_now (Ok true) = MadeAll names job product s × Rests errors errors_now
RespondsGather names job product s errors errors_now (Ok false) =
    (line : List ℕ) × MadeLess names job product s line × Says errors errors_now line
RespondsGather names job product s errors errors_now (Err why) = FailsToMake names job product s why × SaysFaults names job s errors errors_now
