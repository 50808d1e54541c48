-- Numbers as a fixed count of hexadecimal digits.
use Rattle.std.specs.Prelude.{ℕ, ◌/◌, ◌%◌, List, [], ◌∷◌, ◌++◌, true, codes}
use Rattle.std.specs.Fmt.{digit_glyph, digits}

-- one digit, in upper case
abbrev pub digit : ℕ → ℕ
digit n = digit_glyph true n

-- the last four digits
abbrev pub four_digits : ℕ → List ℕ
four_digits n = digit (n / 4096 % 16) ∷ digit (n / 256 % 16) ∷ digit (n / 16 % 16) ∷ digit (n % 16) ∷ []

-- the six digits of a number below 2^24
unfoldable pub six_digits : ℕ → List ℕ
six_digits n = digit (n / 1048576 % 16) ∷ digit (n / 65536 % 16) ∷ four_digits n

-- the eight digits of a number below 2^32
unfoldable pub eight_digits : ℕ → List ℕ
eight_digits n =
    digit (n / 268435456 % 16)
    ∷ digit (n / 16777216 % 16)
    ∷ digit (n / 1048576 % 16)
    ∷ digit (n / 65536 % 16)
    ∷ four_digits n

-- how a tag is printed
abbrev pub tag_text : ℕ → List ℕ
tag_text t = codes "0x" ++ six_digits t

-- how a length is printed
abbrev pub length_text : ℕ → List ℕ
length_text n = codes "0x" ++ eight_digits n

-- a number as `0x` and uppercase digits without leading zeros
abbrev pub number_text : ℕ → List ℕ
number_text n = codes "0x" ++ digits 16 true n
