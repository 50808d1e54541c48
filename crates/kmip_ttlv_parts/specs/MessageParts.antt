-- The values of parts of messages, as they are written and as they are read.
use Rattle.std.specs.Prelude.{ℕ, ℤ, List, [], ◌∷◌, Option, Some, None, map}
use Rattle.std.specs.Int.{Width, cast_signed, cast_unsigned}
use Rattle.kmip_ttlv_base.specs.Tags.{wrapper_name}
use Rattle.kmip_ttlv_base.specs.Values.{Value, newtype_value, none_value, some_value, seq_value, values_of}

-- the value that there may be, as this says of what there is
abbrev pub optional : {T : Type 0} → (T → Value) → Option T → Value
optional as_value None = none_value
optional as_value (Some x) = some_value (as_value x)

-- the sequence of the values that these stand for
abbrev pub sequence : {T : Type 0} → (T → Value) → List T → Value
sequence as_value xs = seq_value (values_of (map as_value xs))

-- the same of a sequence that may be empty: none where it is
abbrev pub optional_sequence : {T : Type 0} → (T → Value) → List T → Value
optional_sequence as_value [] = none_value
optional_sequence as_value (x ∷ xs) = some_value (sequence as_value (x ∷ xs))

-- how many there are of what may be absent
abbrev pub there : {T : Type 0} → Option T → ℕ
there None = 0
there (Some x) = 1

-- the number that the bits of a number are: itself, where it fits
abbrev pub by_bits : Width → ℤ → ℤ
by_bits w z = cast_signed w (cast_unsigned w z)

-- a leaf under this tag: it is in the wrapper of the tag
abbrev pub tagged : ℕ → Value → Value
tagged tag v = newtype_value (wrapper_name tag) v
