-- What is printed of messages that come piece by piece.
use Rattle.std.specs.Prelude.{◌≡◌, ℕ, ◌+◌, ◌<◌, ◌≤◌, Bool, true, false, ◌&&◌, ◌||◌, nat_lt, List, [], ◌++◌, length, take, drop, Option}
use Rattle.std.specs.Io.KnownBytes.{Consumes, IsAtEnd}
use Rattle.kmip_ttlv_items.specs.ItemWalks.{AreBytes}
use Rattle.ttlv_run.specs.declared.job.Task.{Task}
use Rattle.ttlv_run.specs.declared.messages.Reached.{Reached}
use Rattle.ttlv_run.specs.declared.messages.Reached.TheVariants.{Behind, Fault}
use Rattle.ttlv_run.specs.declared.window.Window.{Window}
use Rattle.ttlv_run.specs.Backs.{IsOneLine}
use Rattle.ttlv_run.specs.Messages.{is_there, Whole, Breaks, Continues}
use Rattle.ttlv_run.specs.Texts.{Names}

-- the bytes that were read, in front of room for more
abbrev pub window_bytes : {A : Type 0} → Window A → List ℕ
window_bytes w = take w.count w.bytes.items

-- these bytes stand at a place among those of all messages, and more behind them, if they aren't the last
pub record StandsAt (all : List ℕ) (place : ℕ) (bytes : List ℕ) (last : Bool) : Type 0 where
  pub more : List ℕ
  pub within : place ≤ length all
  pub are : drop place all ≡ bytes ++ more
  pub ends : last ≡ true → more ≡ []

-- a message begins at a place that all of is there; or, where the bytes are the last, all that is left
abbrev pub is_due : List ℕ → ℕ → Bool → Bool
is_due bytes place last = nat_lt place (length bytes) && (last || is_there (drop place bytes))

-- where printing ends: behind whole messages, and so behind all bytes where they are the last, or else in front of a message
-- that isn't there as a whole
abbrev pub EndsAt : List ℕ → Bool → Reached → Type 0
EndsAt bytes true (Behind count) = count ≡ length bytes
EndsAt bytes false (Behind count) = (count ≤ length bytes) × (is_there (drop count bytes) ≡ false)
EndsAt bytes last (Fault place) = Unit {0}

-- what is printed up to there of all messages
abbrev pub PrintsUpTo : Names → Task → List ℕ → ℕ → List ℕ → Reached → Type 0
PrintsUpTo names task all place text (Behind count) = Whole names task all (place + count) text
PrintsUpTo names task all place text (Fault fault) = Breaks names task all text fault

-- this is printed of some bytes, whatever stands in front of them and behind
abbrev pub PrintsOn : Names → Task → ℕ → List ℕ → Bool → Reached → List ℕ → Type 0
PrintsOn names task place bytes last reached text =
    (all front : List ℕ) → StandsAt all place bytes last → Whole names task all place front
    → PrintsUpTo names task all place (front ++ text) reached

-- a text that goes on behind this one is printed of all messages
abbrev pub ContinuesBehind : Names → Task → ℕ → List ℕ → Bool → List ℕ → Type 0
ContinuesBehind names task place bytes last text =
    (all front : List ℕ) → StandsAt all place bytes last → AreBytes all → Whole names task all place front
    → Continues names task all (front ++ text)

-- bytes came behind those that were there
pub record Yields (old new : Option (List ℕ)) (before after : List ℕ) : Type 0 where
  pub came : List ℕ
  pub consumed : Consumes old new came
  pub are : after ≡ before ++ came

-- so many, and none at the input's end
pub record YieldsBy (old new : Option (List ℕ)) (before after : List ℕ) (count : ℕ) : Type 0 where
  pub yields : Yields old new before after
  pub as_many : length after ≡ length before + count
  pub ended : count ≡ 0 → IsAtEnd new

-- so did all that was left of the input
pub record YieldsAll (old new : Option (List ℕ)) (before after : List ℕ) : Type 0 where
  pub yields : Yields old new before after
  pub ended : IsAtEnd new

-- so did all of a line and more, or what was left of the input
pub record YieldsLines (old new : Option (List ℕ)) (before after : List ℕ) (ended : Bool) : Type 0 where
  pub yields : Yields old new before after
  pub some : ended ≡ false → length before < length after
  pub at_end : ended ≡ true → IsAtEnd new

-- some came, and reading failed before a line feed came
pub record LinesFail (old new : Option (List ℕ)) (before after : List ℕ) : Type 0 where
  pub yields : Yields old new before after
  pub one_line : IsOneLine before → IsOneLine after
