-- Text that stands for a number.
use Rattle.std.specs.Prelude.{ℕ, ◌^◌, Bool, true, List, [], ◌∷◌, Option, Some, None, if◌then◌else◌, nat_lt, ◌==◌, ◌&&◌}
use Rattle.std.specs.Prelude.{option_and_then, length, drop, codes, eqb}
use Rattle.std.specs.Prelude.{◌≡◌, Result, Ok, Err, string_bytes}
use Rattle.std.specs.Char.{is_digit}
use Rattle.std.specs.List.{starts_with}
use Rattle.std.specs.Str.Parse.{digits_value, without_leading_plus}
use Rattle.kmip_ttlv_types.specs.declared.error.Error.{Error}
use Rattle.kmip_ttlv_types.specs.declared.error.Error.TheVariants.{InvalidTtlvTag, OutOfMemory}

-- what follows a prefix, if s begins with it
abbrev pub after_prefix : List ℕ → List ℕ → Option (List ℕ)
after_prefix prefix s = if starts_with eqb s prefix then Some (drop (length prefix) s) else None

-- every leading "0x" is dropped
abbrev pub without_0x : List ℕ → List ℕ
without_0x [] = []
without_0x (a ∷ []) = a ∷ []
without_0x (a ∷ b ∷ rest) = if (a == 48) && (b == 120) then without_0x rest else a ∷ b ∷ rest

-- each is a digit of the radix, of either case
abbrev pub all_digits : ℕ → List ℕ → Bool
all_digits radix [] = true
all_digits radix (c ∷ cs) = is_digit c radix && all_digits radix cs

-- the number of one hexadecimal digit or more, if it is below 2^32
abbrev pub numeral : List ℕ → Option ℕ
numeral ds =
    if nat_lt 0 (length ds) && all_digits 16 ds && nat_lt (digits_value 16 ds) (2 ^ 32)
    then Some (digits_value 16 ds)
    else None

-- the number that a text is: any count of leading "0x", a "+" or none, and hexadecimal digits
unfoldable pub number : List ℕ → Option ℕ
number s = numeral (without_leading_plus (without_0x s))

-- a tag's number has three bytes
abbrev pub below_tag_limit : ℕ → Option ℕ
below_tag_limit n = if nat_lt n (2 ^ 24) then Some n else None

-- the tag that a name is: its number, below 2^24
unfoldable pub tag_of : List ℕ → Option ℕ
tag_of name = option_and_then below_tag_limit (number name)

-- what follows "Transparent:", if a name begins with it
unfoldable pub transparent_name : List ℕ → Option (List ℕ)
transparent_name name = after_prefix (codes "Transparent:") name

-- what follows "Override:", if a name begins with it
unfoldable pub override_name : List ℕ → Option (List ℕ)
override_name name = after_prefix (codes "Override:") name

-- the tag that a text is; or an error, if it is none: with the whole text, or out of memory for it
abbrev pub IsNamed : {A : Type 0} → List ℕ → Result ℕ (Error A) → Type 0
IsNamed s (Ok t) = tag_of s ≡ Some t
IsNamed s (Err (InvalidTtlvTag text)) = (tag_of s ≡ None) × (string_bytes text ≡ s)
IsNamed s (Err OutOfMemory) = tag_of s ≡ None
IsNamed s (Err _) = ⊥
