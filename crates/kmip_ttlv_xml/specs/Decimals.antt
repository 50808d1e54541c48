-- Whole numbers in decimal digits.
use Rattle.std.specs.Prelude.{ℕ, ◌-◌, ◌^◌, ◌==◌, ◌&&◌, nat_lt, nat_le, Bool, true, false, List, [], ◌∷◌, length, if◌then◌else◌}
use Rattle.std.specs.Prelude.{Option, Some, None, option_map}
use Rattle.std.specs.Str.{all_ascii_digits}
use Rattle.std.specs.Str.Parse.{digits_value}
use Rattle.kmip_ttlv_json.specs.declared.seen.Whole.{Whole}

-- one digit or more, whose number has 64 bits
abbrev pub is_size : List ℕ → Bool
is_size digits = all_ascii_digits digits && (nat_lt 0 (length digits) && nat_lt (digits_value 10 digits) (2 ^ 64))

-- the number of such digits
abbrev pub size_of : List ℕ → Option ℕ
size_of digits = if is_size digits then Some (digits_value 10 digits) else None

-- a whole number with a sign or none
abbrev pub signed : Bool → Option ℕ → Option Whole
signed minus size = option_map (λ n. record { minus = minus; size = n }) size

-- the whole number of digits, which may stand behind a minus sign
abbrev pub whole_of : List ℕ → Option Whole
whole_of [] = None
whole_of (c ∷ cs) = if c == 45 then signed true (size_of cs) else signed false (size_of (c ∷ cs))

-- the number that 64 bits are for a whole number, if it is a Long Integer
abbrev pub long_of : Bool → ℕ → Option ℕ
long_of true n = if nat_lt 0 n && nat_le n (2 ^ 63) then Some (2 ^ 64 - n) else None
long_of false n = if nat_lt n (2 ^ 63) then Some n else None
