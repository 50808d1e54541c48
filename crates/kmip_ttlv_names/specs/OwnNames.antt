-- What a table of names means that names values too: a line for a value is a tag, a colon, the value, a space and its name.
use Rattle.std.specs.Prelude.{◌≡◌, ℕ, suc, ◌+◌, ◌*◌, Bool, List, [], ◌∷◌, length, Option, Some, None}
use Rattle.std.specs.Prelude.{if◌then◌else◌, ◌==◌, ◌||◌, nat_lt}
use Rattle.std.specs.Borrow.{Bor}
use Rattle.std.specs.List.{position_or_len, before_first, after_first}
use Rattle.std.specs.Str.{trim_end}
use Rattle.kmip_ttlv_types.specs.Names.{tag_of, number}
use Rattle.kmip_ttlv_util.specs.TagNames.{no_names}
use Rattle.kmip_ttlv_names.specs.NameTables.{Said, says_name, says_no_tag, is_space, line_of, lines_of, with_name, is_good}

-- a tag and a value as one number: the digits of the tag, and then eight of the value
abbrev pub value_key : ℕ → ℕ → ℕ
value_key tag value = tag * 4_294_967_296 + value

-- whether a byte is a colon
abbrev pub is_colon : ℕ → Bool
is_colon b = b == 58

-- the name of a value, if there are a tag and a value
abbrev pub named_value : Option ℕ → Option ℕ → List ℕ → Said
named_value (Some tag) (Some value) name = says_name (value_key tag value) name
named_value (Some tag) None name = says_no_tag
named_value None value name = says_no_tag

-- a tag, a colon and a value, and their name
abbrev pub word_named : List ℕ → List ℕ → Said
word_named word name =
    if nat_lt (position_or_len is_colon word) (length word)
    then named_value (tag_of (before_first is_colon word)) (number (after_first is_colon word)) name
    else says_no_tag

-- such a word, a space and a name
abbrev pub value_entry_of : List ℕ → Said
value_entry_of s =
    if nat_lt (position_or_len is_space s) (length s)
    then word_named (before_first is_space s) (after_first is_space s)
    else says_no_tag

-- what a line says of a value, without white space at its end
unfoldable pub value_line_of : List ℕ → Said
value_line_of s = value_entry_of (trim_end s)

-- names of values, and those of some lines; a later line's comes before an earlier one's
abbrev pub values_after : (ℕ → Option (List ℕ)) → List (List ℕ) → ℕ → Option (List ℕ)
values_after names [] = names
values_after names (l ∷ ls) = values_after (with_name names (value_line_of l)) ls

-- the names that a table gives to values
unfoldable pub value_names_of : List ℕ → ℕ → Option (List ℕ)
value_names_of table = values_after no_names (lines_of table)

-- the number of the first line that can't be parsed, counted from n
abbrev pub bad_own_from : ℕ → List (List ℕ) → Option ℕ
bad_own_from n [] = None
bad_own_from n (l ∷ ls) =
    if is_good (line_of l) || is_good (value_line_of l) then bad_own_from (suc n) ls else Some n

-- the number of the first line of a table that names neither a tag nor a value, and is no comment
unfoldable pub bad_own_line : List ℕ → Option ℕ
bad_own_line table = bad_own_from 1 (lines_of table)

-- what the code makes of a line
abbrev pub MeansValue : Said → Option (ℕ × Bor (List ℕ)) → Type 0
MeansValue said None = said ≡ says_no_tag
MeansValue said (Some (key, name)) = said ≡ says_name key name.now

-- the value of a line was added, if it names one
pub record AddsValue (old : ℕ → Option (List ℕ)) (line : List ℕ) (good : Bool) (new : ℕ → Option (List ℕ)) : Type 0 where
  pub tells : good ≡ is_good (value_line_of line)
  pub adds : new ≡ with_name old (value_line_of line)

-- what a line names was added, if it can be parsed
pub record AddsOwn (tags values : ℕ → Option (List ℕ)) (line : List ℕ) (good : Bool) (tags_now values_now : ℕ → Option (List ℕ)) : Type 0 where
  pub tells : good ≡ (is_good (line_of line) || is_good (value_line_of line))
  pub tags_are : tags_now ≡ with_name tags (line_of line)
  pub values_are : values_now ≡ with_name values (value_line_of line)
