-- What the laws of outcomes speak of.
use Rattle.std.specs.Prelude.{◌≡◌, ℕ, ◌<◌, List, slice_index}
use Rattle.kmip_ttlv_reader.specs.Steps.{Outcome, gives, ends_early, fails}

-- what the same bytes and more come to: the same, unless the first end too early
abbrev pub Stands : {A : Type 0} → Outcome A → Outcome A → Type 0
Stands ends_early o = Unit {0}
Stands (gives x) o = o ≡ gives x
Stands (fails x) o = o ≡ fails x

-- each number is a byte
abbrev pub AreBytes : List ℕ → Type 0
AreBytes b = (i : ℕ) → slice_index b i < 256
