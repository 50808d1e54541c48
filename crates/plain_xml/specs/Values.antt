-- The value of an attribute, with its references replaced (XML 1.0, 2.3, 3.3.3, 4.1 and 4.6).
use Rattle.std.specs.Prelude.{ℕ, ◌+◌, ◌*◌, ◌==◌, ◌&&◌, ◌||◌, not, nat_lt, nat_le, Bool, List, [], ◌∷◌, ◌++◌, take, drop}
use Rattle.std.specs.Prelude.{if◌then◌else◌, Option, Some, None, option_map, option_and_then, Result, Ok, encode_utf8}
use Rattle.std.specs.List.{prefix_len}
use Rattle.std.specs.Char.{digit_value}
use Rattle.std.specs.Option.{ok_or}
use Rattle.plain_xml.specs.declared.failure.Flaw.TheVariants.{Tag, Value, Reference, Unfinished}
use Rattle.plain_xml.specs.declared.failure.Fault.{Fault}
use Rattle.plain_xml.specs.Characters.{is_character}
use Rattle.plain_xml.specs.Faults.{◌>>=◌, fault_at, fails, Stepped, steps}

-- the character of a number
abbrev pub character_of : ℕ → Option ℕ
character_of n = if is_character n then Some n else None

-- the number of digits behind others of this number, unless it is greater than that of any character
abbrev pub digits_value : ℕ → ℕ → List ℕ → Option ℕ
digits_value radix n [] = Some n
digits_value radix n (d ∷ ds) =
    if nat_lt (digit_value d) radix && nat_le (n * radix + digit_value d) 0x10_FFFF
    then digits_value radix (n * radix + digit_value d) ds
    else None

abbrev pub number_in : ℕ → List ℕ → Option ℕ
number_in radix [] = None
number_in radix (d ∷ ds) = option_and_then character_of (digits_value radix 0 (d ∷ ds))

-- a number in decimal or, behind an x, in hexadecimal
abbrev pub numbered : List ℕ → Option ℕ
numbered [] = None
numbered (c ∷ cs) = if c == 120 then number_in 16 cs else number_in 10 (c ∷ cs)

-- lt and gt
abbrev pub two : ℕ → ℕ → Option ℕ
two a b = if a == 108 && b == 116 then Some 60 else if a == 103 && b == 116 then Some 62 else None

-- amp
abbrev pub three : ℕ → ℕ → ℕ → Option ℕ
three a b c = if a == 97 && (b == 109 && c == 112) then Some 38 else None

-- quot and apos
abbrev pub four : ℕ → ℕ → ℕ → ℕ → Option ℕ
four a b c d =
    if a == 113 && (b == 117 && (c == 111 && d == 116)) then Some 34
    else if a == 97 && (b == 112 && (c == 111 && d == 115)) then Some 39 else None

-- the predefined entities
abbrev pub predefined : List ℕ → Option ℕ
predefined [] = None
predefined (a ∷ []) = None
predefined (a ∷ b ∷ []) = two a b
predefined (a ∷ b ∷ c ∷ []) = three a b c
predefined (a ∷ b ∷ c ∷ d ∷ []) = four a b c d
predefined (a ∷ b ∷ c ∷ d ∷ e ∷ es) = None

-- what a reference stands for, by what is between its & and its semicolon
unfoldable pub referenced : List ℕ → Option ℕ
referenced [] = None
referenced (c ∷ cs) = if c == 35 then numbered cs else predefined (c ∷ cs)

-- two parts of a text, without the character between them
abbrev pub cut : List ℕ → List ℕ → Option (List ℕ × List ℕ)
cut front [] = None
cut front (c ∷ back) = Some (front, back)

abbrev pub is_other : ℕ → ℕ → Bool
is_other stop c = not (c == stop)

-- what stands before the first of these characters, and behind it
unfoldable pub split_at_first : ℕ → List ℕ → Option (List ℕ × List ℕ)
split_at_first stop text = cut (take (prefix_len (is_other stop) text) text) (drop (prefix_len (is_other stop) text) text)

-- the character of a reference, behind its &, and what follows it
unfoldable pub reference_at : List ℕ → Option (ℕ × List ℕ)
reference_at text = option_and_then (λ p. option_map (λ c. (c, p.1)) (referenced p.0)) (split_at_first 59 text)

-- the first character of a value, and what follows it; a tab and a line feed are blanks
unfoldable pub character_at : List ℕ → Result (ℕ × List ℕ) Fault
character_at [] = fails Value []
character_at (c ∷ cs) =
    if c == 38 then ok_or (reference_at cs) (fault_at Reference (c ∷ cs)) else
    if c == 9 || c == 10 then Ok (32, cs) else
    if c == 60 || c == 13 then fails Value (c ∷ cs) else Ok (c, cs)

-- the first character, unless the quote stands there
abbrev pub next_in : ℕ → List ℕ → Result (Option (ℕ × List ℕ)) Fault
next_in quote [] = Ok None
next_in quote (c ∷ cs) = if c == quote then Ok None else character_at (c ∷ cs) >>= λ x. Ok (Some x)

-- one more character, in bytes, unless the quote stands there
unfoldable pub more_of : ℕ → List ℕ → List ℕ → Stepped (List ℕ)
more_of quote value [] = Ok None
more_of quote value (c ∷ cs) =
    if c == quote then Ok None else character_at (c ∷ cs) >>= λ x. Ok (Some (value ++ encode_utf8 x.0, x.1))

-- the value ends with a quote
abbrev pub closed : List ℕ × List ℕ → Result (List ℕ × List ℕ) Fault
closed (value, []) = fails Unfinished []
closed (value, c ∷ cs) = Ok (value, cs)

-- what follows a quote up to the next
unfoldable pub quoted : ℕ → List ℕ → Result (List ℕ × List ℕ) Fault
quoted quote text = steps (more_of quote) [] text >>= closed

-- a value in quotes of either kind, in bytes, and what follows it
unfoldable pub value_at : List ℕ → Result (List ℕ × List ℕ) Fault
value_at [] = fails Tag []
value_at (c ∷ cs) = if c == 34 || c == 39 then quoted c cs else fails Tag (c ∷ cs)
