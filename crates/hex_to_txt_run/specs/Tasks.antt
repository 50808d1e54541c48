-- What the program's arguments ask for.
use Rattle.std.specs.Prelude.{ℕ, Bool, true, false, List, [], ◌∷◌, Option, Some, None, if◌then◌else◌, bytes_eq, codes}
use Rattle.hex_to_txt_run.specs.declared.task.Task.{Task as TaskIs}
use Rattle.hex_to_txt_run.specs.declared.task.Task.TheVariants as held

-- to print a pair of numbers; a readable text; a diagnostic, with empty structures closed or left open,
-- under a tag prefix; or what a diagnostic under a prefix is read back as
pub data Task : Type 0 where
  pair_task : Task
  readable_task : Task
  diagnostic_task : (closed : Bool) → (prefix : List ℕ) → Task
  read_back_task : (prefix : List ℕ) → Task

-- the task with this name, under a prefix
abbrev pub prefixed_task : List ℕ → List ℕ → Option Task
prefixed_task word prefix =
    if bytes_eq word (codes "text") then Some readable_task else
    if bytes_eq word (codes "diag") then Some (diagnostic_task false prefix) else
    if bytes_eq word (codes "closed") then Some (diagnostic_task true prefix) else
    if bytes_eq word (codes "undiag") then Some (read_back_task prefix) else None

-- the task that the arguments ask for: `flat` alone, or another name and a prefix, which is empty if it is left out
abbrev pub task_of : List (List ℕ) → Option Task
task_of [] = None
task_of (word ∷ []) = if bytes_eq word (codes "flat") then Some pair_task else prefixed_task word []
task_of (word ∷ prefix ∷ []) = prefixed_task word prefix
task_of (word ∷ prefix ∷ further ∷ rest) = None

-- a task, without where its prefix is in memory
abbrev pub seen_task : TaskIs → Task
seen_task held.Flat = pair_task
seen_task held.Text = readable_task
seen_task (held.Diagnostic closed prefix) = diagnostic_task closed prefix.now
seen_task (held.ReadBack prefix) = read_back_task prefix.now
