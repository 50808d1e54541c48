-- The last hexadecimal digits of a number.
use Rattle.std.specs.Prelude.{ℕ, zero, suc, ◌/◌, ◌%◌, List, [], ◌∷◌, ◌++◌, true}
use Rattle.std.specs.Fmt.{digit_glyph}

-- the last k digits, in uppercase, with leading zeros if the number has fewer
unfoldable pub last_digits : ℕ → ℕ → List ℕ
last_digits zero n = []
last_digits (suc k) n = last_digits k (n / 16) ++ (digit_glyph true (n % 16) ∷ [])
