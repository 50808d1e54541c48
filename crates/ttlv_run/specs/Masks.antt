-- The names of values, and of a mask's bits.
use Rattle.std.specs.Prelude.{◌≡◌, ◌<◌, ◌≤◌, ℕ, zero, suc, ◌+◌, ◌*◌, ◌/◌, ◌%◌, Bool, true, false, ◌==◌, List, [], ◌++◌}
use Rattle.std.specs.Prelude.{Option, Some, None, if◌then◌else◌, codes, length}
use Rattle.std.specs.List.{position_or_len, before_first}
use Rattle.kmip_ttlv_types.specs.Names.{number}
use Rattle.kmip_ttlv_names.specs.ValueNames.{entry_name, is_equals, is_semicolon, name_of_value, or_else}
use Rattle.kmip_ttlv_names.specs.OwnNames.{value_key}
use Rattle.ttlv_run.specs.declared.masks.Entry.{Entry}
use Rattle.ttlv_run.specs.declared.masks.Entry.TheVariants.{Passed, Named, Later}

-- the name of a value in a list, where there is one
abbrev pub value_in : Option (List ℕ) → ℕ → Option (List ℕ)
value_in None value = None
value_in (Some list) value = name_of_value value list

-- the name of a tag's value: the user's, or else that in a list
abbrev pub value_named : (ℕ → Option (List ℕ)) → Option (List ℕ) → ℕ → ℕ → Option (List ℕ)
value_named own list tag value = or_else (own (value_key tag value)) (value_in list value)

-- what an entry of a list is, where the names of this value and of greater ones are wanted
abbrev pub IsEntry : ℕ → List ℕ → Entry → Type 0
IsEntry value entry Passed = (other : ℕ) → value ≤ other → entry_name other entry ≡ None
IsEntry value entry (Named name) =
    (entry_name value entry ≡ Some name.now) × ((other : ℕ) → value < other → entry_name other entry ≡ None)
IsEntry value entry Later = entry_name value entry ≡ None

-- the name of a value in a list, and a list with those of the greater ones
abbrev pub IsNext : ℕ → List ℕ → Option (List ℕ) → List ℕ → Type 0
IsNext value list name rest =
    (name ≡ name_of_value value list)
    × ((other : ℕ) → value < other → name_of_value other list ≡ name_of_value other rest)

-- another list has the names of the values above this one
abbrev pub NamesAbove : ℕ → List ℕ → List ℕ → Type 0
NamesAbove value list rest = (other : ℕ) → value < other → name_of_value other list ≡ name_of_value other rest

-- how an entry for this value begins: with its number and an equals sign
pub record BeginsFor (value : ℕ) (front : List ℕ) : Type 0 where
  pub means : number (before_first is_equals front) ≡ Some value
  pub ends : position_or_len is_equals front + 1 ≡ length front
  pub one : position_or_len is_semicolon front ≡ length front

-- what stands in front of a name: a space, or a bar where it isn't the first
abbrev pub mark : Bool → List ℕ
mark is_first = if is_first then codes " " else codes " | "

-- a name behind that
abbrev pub behind_mark : Bool → Option (List ℕ) → List ℕ
behind_mark is_first None = []
behind_mark is_first (Some name) = mark is_first ++ name

-- the name of a bit, if it is set
abbrev pub set_name : (ℕ → Option (List ℕ)) → ℕ → Bool → Option (List ℕ)
set_name names bit is_set = if is_set then names bit else None

-- the next name is the first, where one more was due
abbrev pub still_first : Bool → Option (List ℕ) → Bool
still_first is_first None = is_first
still_first is_first (Some name) = false

-- the names of the lowest bits of a number, the first of which stands for `bit`: as many bits as the first number
abbrev pub bit_names : (ℕ → Option (List ℕ)) → ℕ → ℕ → ℕ → Bool → List ℕ
bit_names names zero bit rest is_first = []
bit_names names (suc n) bit rest is_first =
    behind_mark is_first (set_name names bit (rest % 2 == 1))
    ++ bit_names names n (bit * 2) (rest / 2) (still_first is_first (set_name names bit (rest % 2 == 1)))

-- the names of the 32 bits of a mask that are set, from the lowest on
unfoldable pub mask_names : (ℕ → Option (List ℕ)) → ℕ → List ℕ
mask_names names mask = bit_names names 32 1 mask true
