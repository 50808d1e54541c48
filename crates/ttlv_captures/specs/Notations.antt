-- How the bytes of a message stand in a text: the first token of a text, which writes a byte, in each notation.
use Rattle.std.specs.Prelude.{ℕ, zero, suc, ◌+◌, ◌-◌, ◌*◌, Bool, false, ◌==◌, ◌||◌, ◌&&◌, List, [], ◌∷◌, length, drop, slice_index, nat_lt, bytes_eq}
use Rattle.std.specs.Prelude.{Option, Some, None, if◌then◌else◌}
use Rattle.ttlv_captures.specs.declared.notation.Notation.{Notation}
use Rattle.ttlv_captures.specs.declared.notation.Notation.TheVariants.{Raw, Hexadecimal, Numbers, Escaped}
use Rattle.ttlv_captures.specs.declared.token.Token.{Token}

abbrev pub token : ℕ → ℕ → Token
token byte width = record { byte = byte; width = width }

-- a character is between these two
abbrev pub is_in : ℕ → ℕ → ℕ → Bool
is_in first last c = nat_lt c (last + 1) && nat_lt first (c + 1)

-- what a decimal digit counts
abbrev pub decimal_digit : ℕ → Option ℕ
decimal_digit c = if is_in 48 57 c then Some (c - 48) else None

-- what a hexadecimal digit counts, of either case
abbrev pub hex_digit : ℕ → Option ℕ
hex_digit c =
    if is_in 48 57 c then Some (c - 48)
    else if is_in 65 70 c then Some (c - 55)
    else if is_in 97 102 c then Some (c - 87)
    else None

-- a byte of two hexadecimal digits, which takes so many characters
abbrev pub two_digits : Option ℕ → Option ℕ → ℕ → Option Token
two_digits (Some a) (Some b) width = Some (token (16 * a + b) width)
two_digits _ _ width = None

-- a byte of one or two hexadecimal digits and no third, behind `0x`
abbrev pub hex_number : Option ℕ → Option ℕ → Option ℕ → Option Token
hex_number (Some a) None third = Some (token a 3)
hex_number (Some a) (Some b) None = Some (token (16 * a + b) 4)
hex_number _ _ _ = None

-- a byte of three decimal digits is at most 255
abbrev pub three_digits : ℕ → Option Token
three_digits n = if nat_lt n 256 then Some (token n 3) else None

-- a byte of one to three decimal digits and no fourth
abbrev pub decimal_number : Option ℕ → Option ℕ → Option ℕ → Option ℕ → Option Token
decimal_number (Some a) None third fourth = Some (token a 1)
decimal_number (Some a) (Some b) None fourth = Some (token (10 * a + b) 2)
decimal_number (Some a) (Some b) (Some c) None = three_digits (100 * a + 10 * b + c)
decimal_number _ _ _ _ = None

-- a text begins with `0x`
abbrev pub has_prefix : List ℕ → Bool
has_prefix s = slice_index s 0 == 48 && (slice_index s 1 == 120 || slice_index s 1 == 88)

-- a number of a list: `66` or `0x42`
abbrev pub number : List ℕ → Option Token
number s =
    if has_prefix s
    then hex_number (hex_digit (slice_index s 2)) (hex_digit (slice_index s 3)) (hex_digit (slice_index s 4))
    else decimal_number (decimal_digit (slice_index s 0)) (decimal_digit (slice_index s 1)) (decimal_digit (slice_index s 2)) (decimal_digit (slice_index s 3))

-- the byte that a backslash and a letter write: `\n`, `\r`, `\t`, `\0`, `\\`, `\'` or `\"`
abbrev pub escape : ℕ → Option Token
escape c =
    if c == 110 then Some (token 10 2)
    else if c == 114 then Some (token 13 2)
    else if c == 116 then Some (token 9 2)
    else if c == 48 then Some (token 0 2)
    else if c == 92 || c == 39 || c == 34 then Some (token c 2)
    else None

-- a byte of a literal: `\x42`, an escape, or a character of ASCII that stands for itself
abbrev pub literal : List ℕ → Option Token
literal s =
    if slice_index s 0 == 92
    then (if slice_index s 1 == 120 then two_digits (hex_digit (slice_index s 2)) (hex_digit (slice_index s 3)) 4
    else escape (slice_index s 1))
    else if is_in 32 126 (slice_index s 0) then Some (token (slice_index s 0) 1)
    else None

-- a byte as it is
abbrev pub plain : List ℕ → Option Token
plain [] = None
plain (b ∷ s) = Some (token b 1)

-- the first token of a text, without what follows it
abbrev pub bare_token : Notation → List ℕ → Option Token
bare_token Raw s = plain s
bare_token Hexadecimal s = two_digits (hex_digit (slice_index s 0)) (hex_digit (slice_index s 1)) 2
bare_token Numbers s = number s
bare_token Escaped s = literal s

-- white space
abbrev pub is_space : ℕ → Bool
is_space c = c == 32 || is_in 9 13 c

-- what may stand behind a token, before the next: white space, and a colon or a dash behind two digits, a comma behind a number
abbrev pub is_gap : Notation → ℕ → Bool
is_gap Raw c = false
is_gap Hexadecimal c = is_space c || c == 58 || c == 45
is_gap Numbers c = is_space c || c == 44
is_gap Escaped c = false

-- how many such characters a text begins with
abbrev pub gap : Notation → List ℕ → ℕ
gap n [] = 0
gap n (c ∷ s) = if is_gap n c then gap n s + 1 else 0

-- a token with what follows it
abbrev pub with_gap : Notation → List ℕ → Option Token → Option Token
with_gap n s None = None
with_gap n s (Some t) = Some (token t.byte (t.width + gap n (drop t.width s)))

-- the first token of a text: its byte, and how many characters it takes
abbrev pub first_token : Notation → List ℕ → Option Token
first_token n s = with_gap n s (bare_token n s)

-- a token, if there is one, and the tokens behind it
abbrev pub followed : (Token → List Token) → Option Token → List Token
followed behind None = []
followed behind (Some t) = t ∷ behind t

-- the tokens that a text begins with, at most so many
abbrev pub tokens : Notation → ℕ → List ℕ → List Token
tokens n zero s = []
tokens n (suc count) s = followed (λ t. tokens n count (drop t.width s)) (first_token n s)

-- the bytes of tokens
abbrev pub bytes_of : List Token → List ℕ
bytes_of [] = []
bytes_of (t ∷ ts) = t.byte ∷ bytes_of ts

-- how many characters tokens take
abbrev pub widths : List Token → ℕ
widths [] = 0
widths (t ∷ ts) = t.width + widths ts

-- a text begins with these bytes in a notation
abbrev pub begins : Notation → List ℕ → List ℕ → Bool
begins n s bytes = bytes_eq (bytes_of (tokens n (length bytes) s)) bytes
