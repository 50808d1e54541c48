-- The line with a file's name, which stands in front of what is shown of it where there are several.
use Rattle.std.specs.Prelude.{◌≡◌, ℕ, Bool, true, false, ◌&&◌, nat_lt, List, ◌++◌, codes}
use Rattle.ttlv_run.specs.declared.job.Asked.{Asked}
use Rattle.ttlv_run.specs.declared.job.Asked.TheVariants.{Print, Find}
use Rattle.ttlv_run.specs.declared.job.Strict.TheVariants.{Show as ShowWhole}
use Rattle.ttlv_run.specs.declared.job.Task.TheVariants.{Show, Whole}
use Rattle.ttlv_run.specs.declared.run_error.RunError.{RunError}
use Rattle.kmip_ttlv_types.specs.Held.{Held, Gets}
use Rattle.ttlv_run.specs.Escapes.{escape}
use Rattle.ttlv_run.specs.Reasons.{IsOfPrinting, PrintsFront}

-- readable lines are asked for
abbrev pub asks_for_lines : Asked → Bool
asks_for_lines (Print (Show look) encoding) = true
asks_for_lines (Print (Whole (ShowWhole look)) encoding) = true
asks_for_lines (Find look) = true
asks_for_lines asked = false

-- the line stands in front of what is printed of each of so many files: readable lines of several
abbrev pub is_headed : Asked → ℕ → Bool
is_headed asked count = nat_lt 1 count && asks_for_lines asked

-- the line of a name
abbrev pub heading : List ℕ → List ℕ
heading name = codes "==> " ++ (escape name ++ codes " <==\n")

-- the output got the line of a name, if one is due; else it is what it was
abbrev pub Heads : Bool → List ℕ → Held → Held → Type 0
Heads true name old new = Gets old new (heading name)
Heads false name old new = new ≡ old

-- the line is due, and a beginning of it was printed, for this reason
pub record HeadFails (headed : Bool) (name : List ℕ) (old new : Held) (why : RunError) : Type 0 where
  pub due : headed ≡ true
  pub of_printing : IsOfPrinting why
  pub front : PrintsFront why old new (heading name)
