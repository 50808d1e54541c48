-- Numbers in bytes: a byte behind the end counts as 0.
use Rattle.std.specs.Prelude.{ℕ, ◌+◌, ◌*◌, Bool, List, slice_index, take, drop, if◌then◌else◌}

-- two, four and eight bytes, the greatest first
abbrev pub be16 : List ℕ → ℕ → ℕ
be16 s at = 256 * slice_index s at + slice_index s (at + 1)

abbrev pub be32 : List ℕ → ℕ → ℕ
be32 s at = 65536 * be16 s at + be16 s (at + 2)

abbrev pub be64 : List ℕ → ℕ → ℕ
be64 s at = 4294967296 * be32 s at + be32 s (at + 4)

-- in the order of a capture: the greatest first, or the least
abbrev pub number16 : Bool → List ℕ → ℕ → ℕ
number16 big s at = if big then be16 s at else slice_index s at + 256 * slice_index s (at + 1)

abbrev pub number32 : Bool → List ℕ → ℕ → ℕ
number32 big s at = if big then be32 s at else (slice_index s at + 256 * slice_index s (at + 1)) + 65536 * (slice_index s (at + 2) + 256 * slice_index s (at + 2 + 1))

-- so many bytes from a place on, as far as they are there
abbrev pub part : List ℕ → ℕ → ℕ → List ℕ
part s start count = take count (drop start s)
