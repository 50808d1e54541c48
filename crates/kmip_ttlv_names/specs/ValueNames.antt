-- What a list of an enumeration's values means: an entry for each value.
use Rattle.std.specs.Prelude.{ℕ, Bool, List, [], ◌∷◌, length, Option, Some, None, if◌then◌else◌, ◌==◌, nat_lt}
use Rattle.std.specs.List.{slice_split, position_or_len, before_first, after_first}
use Rattle.kmip_ttlv_types.specs.Names.{number}

-- whether a byte ends an entry, or a number
abbrev pub is_semicolon : ℕ → Bool
is_semicolon b = b == 59

abbrev pub is_equals : ℕ → Bool
is_equals b = b == 61

-- a name, if its number is this value
abbrev pub name_if : ℕ → Option ℕ → List ℕ → Option (List ℕ)
name_if value None name = None
name_if value (Some n) name = if n == value then Some name else None

-- the name in an entry, if the entry is for this value
unfoldable pub entry_name : ℕ → List ℕ → Option (List ℕ)
entry_name value s =
    if nat_lt (position_or_len is_equals s) (length s)
    then name_if value (number (before_first is_equals s)) (after_first is_equals s)
    else None

-- the first of two, if there is one; otherwise the second
abbrev pub or_else : Option (List ℕ) → Option (List ℕ) → Option (List ℕ)
or_else None other = other
or_else (Some name) other = Some name

-- the name in the first entry for this value
abbrev pub name_among : ℕ → List (List ℕ) → Option (List ℕ)
name_among value [] = None
name_among value (e ∷ es) = or_else (entry_name value e) (name_among value es)

-- the name of a value in a list
unfoldable pub name_of_value : ℕ → List ℕ → Option (List ℕ)
name_of_value value list = name_among value (slice_split is_semicolon list)
