-- What a sink holds before and after a text is sent to it.
use Rattle.std.specs.Prelude.{◌⊎◌, ℕ, List, length, Option}
use Rattle.std.specs.Io.KnownBytes.{Appends, Keeps}
use Rattle.kmip_ttlv_types.specs.Streams.{AppendsFront, UsesRoom, IsTight}

-- what a sink holds, and how much more it has room for, as far as that is known
pub record Held : Type 0 where
  pub pending : Option (List ℕ)
  pub room : Option ℕ

abbrev pub held : {S : Type 0} → (S → Option (List ℕ)) → (S → Option ℕ) → S → Held
held emitted room s = record { pending = emitted s; room = room s }

-- it got a text
pub record Gets (old new : Held) (text : List ℕ) : Type 0 where
  pub appended : Appends old.pending new.pending text
  pub used : UsesRoom old.room new.room (length text)

-- it got nothing
abbrev pub Rests : Held → Held → Type 0
Rests old new = Keeps old.pending new.pending × UsesRoom old.room new.room 0

-- it got a beginning of a text, and has no room for all of it, if that is known
pub record GetsFront (old new : Held) (text : List ℕ) : Type 0 where
  pub appended : AppendsFront old.pending new.pending text
  pub tight : IsTight old.room (length text)

-- it got a text, or a beginning where it has no room for all of it or that isn't known
abbrev pub Says : Held → Held → List ℕ → Type 0
Says old new text = Gets old new text ⊎ GetsFront old new text
