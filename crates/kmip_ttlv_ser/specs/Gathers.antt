-- What a sink after a buffer got.
use Rattle.std.specs.Prelude.{◌≡◌, ℕ, List, ◌++◌, Option}
use Rattle.std.specs.Borrow.{GName}
use Rattle.std.specs.declared.io.Error.{Error}
use Rattle.kmip_ttlv_types.specs.Held.{Held}
use Rattle.kmip_ttlv_ser.specs.Outputs.{IsGiven}

-- a sink before it got anything: which one is lent, and what it held
pub record Lent : Type 0 where
  pub name : GName
  pub before : Held

-- after whatever it got before, a sink got these bytes too, or failed
abbrev pub Sends : Held → Held → Option Error → Option Error → List ℕ → Type 0
Sends old new failure failure' bytes =
    (start : Held) (sent : List ℕ) → IsGiven start sent old.pending old.room failure
    → IsGiven start (sent ++ bytes) new.pending new.room failure'

-- a sink got a beginning of these bytes, or failed within it, and the rest is buffered
pub record IsGathered (start : Lent) (sent : List ℕ) (name : GName) (now : Held) (waiting : List ℕ)
    (failure : Option Error) : Type 0 where
  pub same : name ≡ start.name
  pub front : List ℕ
  pub parts : sent ≡ front ++ waiting
  pub reached : IsGiven start.before front now.pending now.room failure
