-- What is done with several inputs, one after the other.
use Rattle.std.specs.Borrow.{Bor}
use Rattle.std.specs.Prelude.{◌≡◌, ℕ, ◌≤◌, Bool, true, false, List, [], ◌∷◌, ◌++◌, length, take, nat_lt, if◌then◌else◌}
use Rattle.std.specs.Prelude.{Option, Some, None, Result, Ok, Err}
use Rattle.ttlv_run.specs.declared.job.Asked.{Asked}
use Rattle.ttlv_run.specs.declared.run_error.RunError.{RunError}
use Rattle.ttlv_run.specs.declared.run_error.RunError.TheVariants.{UnopenedInput, UnwritableOutput, ClosedPipe}
use Rattle.kmip_ttlv_types.specs.Held.{Held, Rests, Says}
use Rattle.ttlv_run.specs.Ends.{IsEnded}
use Rattle.ttlv_run.specs.Headings.{is_headed, Heads, HeadFails}
use Rattle.ttlv_run.specs.Reasons.{status_in, error_line}
use Rattle.ttlv_run.specs.Runs.{Streams}
use Rattle.ttlv_run.specs.Texts.{Names}

-- what opens inputs, and what the output and the errors hold, as far as that is known
pub record At (O : Type 0) : Type 0 where
  pub opener : O
  pub output : Held
  pub errors : Held

-- how inputs are opened, what they have, and whether they can fail
pub record Opening (O I : Type 0) : Type 1 where
  pub opens : O → List ℕ → Option I → O → Type 0
  pub left : I → Option (List ℕ)
  pub can_fail : Bool

-- with a file: the input of its name was opened, and behind the line of that name, if one is due, what was asked is done with its
-- bytes; or a beginning of that line was printed, or the input could not be opened, and this is reported
pub data FileDone
    {O I : Type 0} (how : Opening O I) (names : Names) (asked : Asked) (headed : Bool) (name : Bor (List ℕ)) (old new : At O)
    (outcome : Result Bool RunError) : Type 0 where
  opened :
      (input : I) (s : Streams)
      → how.opens old.opener name.now (Some input) new.opener
      → Heads headed name.now old.output s.output
      → s.can_fail ≡ how.can_fail
      → s.input ≡ how.left input
      → s.output_now ≡ new.output
      → IsEnded names asked name s old.errors new.errors outcome
      → FileDone how names asked headed name old new outcome
  unheaded :
      (input : I) (why : RunError)
      → how.opens old.opener name.now (Some input) new.opener
      → HeadFails headed name.now old.output new.output why
      → outcome ≡ Err why
      → Says old.errors new.errors (error_line name.now why)
      → FileDone how names asked headed name old new outcome
  unopened :
      how.opens old.opener name.now None new.opener
      → outcome ≡ Err UnopenedInput
      → Rests old.output new.output
      → Says old.errors new.errors (error_line name.now UnopenedInput)
      → FileDone how names asked headed name old new outcome

-- the greater of two statuses
abbrev pub greater : ℕ → ℕ → ℕ
greater a b = if nat_lt a b then b else a

-- the output can't be written, so no other file is read
abbrev pub stops : Result Bool RunError → Bool
stops (Ok whole) = false
stops (Err UnwritableOutput) = true
stops (Err ClosedPipe) = true
stops (Err _) = false

-- with some files, one after the other, each but the last of which left an output that can be written; the greatest of their
-- statuses, and whether the last did not
pub data AllDone {O I : Type 0} (how : Opening O I) (names : Names) (asked : Asked) (headed : Bool) (start : At O) :
    List (Bor (List ℕ)) → At O → ℕ → Bool → Type 0 where
  no_file : AllDone how names asked headed start [] start 0 false
  one_more :
      (files more : List (Bor (List ℕ))) (name : Bor (List ℕ)) (then_ now : At O) (before greatest : ℕ)
      (outcome : Result Bool RunError) (stopped : Bool)
      → AllDone how names asked headed start files then_ before false
      → FileDone how names asked headed name then_ now outcome
      → more ≡ files ++ (name ∷ [])
      → greatest ≡ greater before (status_in outcome)
      → stopped ≡ stops outcome
      → AllDone how names asked headed start more now greatest stopped

-- with all files, or with those up to the first behind which the output can't be written; where readable lines of several are asked
-- for, each behind the line of its name
pub record FilesDone
    {O I : Type 0} (how : Opening O I) (names : Names) (asked : Asked) (files : List (Bor (List ℕ)))
    (old new : At O) (greatest : ℕ) : Type 0 where
  pub count : ℕ
  pub stopped : Bool
  pub headed : Bool
  pub within : count ≤ length files
  pub heads : headed ≡ is_headed asked (length files)
  pub done : AllDone how names asked headed old (take count files) new greatest stopped
  pub ended : stopped ≡ false → count ≡ length files
