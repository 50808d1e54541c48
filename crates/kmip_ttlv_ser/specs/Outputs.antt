-- What an output got.
use Rattle.std.specs.Prelude.{ℕ, List, ◌++◌, length, Option, None, Some}
use Rattle.std.specs.Io.KnownBytes.{Appends}
use Rattle.std.specs.declared.io.Error.{Error}
use Rattle.kmip_ttlv_types.specs.{Held.Held, Streams.AppendsFront, Streams.UsesRoom, Streams.IsTight}

-- after whatever an output got before, it got this piece too
abbrev pub Given : {S O : Type 0} → (S → List ℕ → O → Type 0) → List ℕ → O → O → Type 0
Given {S = S} given piece old new = (start : S) (sent : List ℕ) → given start sent old → given start (sent ++ piece) new

-- a sink got these bytes, or failed after a beginning of them, and then it has too little room, if that is known
abbrev pub IsGiven : Held → List ℕ → Option (List ℕ) → Option ℕ → Option Error → Type 0
IsGiven start sent pending room None = Appends start.pending pending sent × UsesRoom start.room room (length sent)
IsGiven start sent pending room (Some e) = AppendsFront start.pending pending sent × IsTight start.room (length sent)
