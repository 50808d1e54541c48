-- What a table of names means: a line for each tag.
use Rattle.std.specs.Prelude.{◌≡◌, ℕ, suc, Bool, true, false, List, [], ◌∷◌, length, Option, Some}
use Rattle.std.specs.Prelude.{None, if◌then◌else◌, ◌==◌, nat_lt, bytes_eq}
use Rattle.std.specs.List.{slice_split, position_or_len, before_first, after_first}
use Rattle.std.specs.Str.{trim_end}
use Rattle.std.specs.Borrow.{Bor}
use Rattle.std.specs.HashMap.{get_by, HashMap}
use Rattle.kmip_ttlv_types.specs.Names.{tag_of}
use Rattle.kmip_ttlv_util.specs.TagNames.{no_names}
use Rattle.kmip_ttlv_names.specs.declared.table.Line.{Line}
use Rattle.kmip_ttlv_names.specs.declared.table.Line.TheVariants as held
use Rattle.kmip_ttlv_names.specs.declared.table.TableError.{TableError}
use Rattle.kmip_ttlv_names.specs.declared.table.TableError.TheVariants.{BadLine, OutOfMemory}

-- what a line means: nothing, a tag's name, or it can't be parsed
pub data Said : Type 0 where
  says_nothing : Said
  says_name : (tag : ℕ) → (name : List ℕ) → Said
  says_no_tag : Said

-- a name with the tag before it, if that is one
abbrev pub named : Option ℕ → List ℕ → Said
named None name = says_no_tag
named (Some tag) name = says_name tag name

-- whether a byte is a space, or a line feed
abbrev pub is_space : ℕ → Bool
is_space b = b == 32

abbrev pub is_line_feed : ℕ → Bool
is_line_feed b = b == 10

-- a tag, a space and a name
abbrev pub entry_of : List ℕ → Said
entry_of s =
    if nat_lt (position_or_len is_space s) (length s)
    then named (tag_of (before_first is_space s)) (after_first is_space s)
    else says_no_tag

-- what a line means, without white space at its end: nothing if it is empty or begins with `#`
abbrev pub trimmed_line : List ℕ → Said
trimmed_line [] = says_nothing
trimmed_line (c ∷ s) = if c == 35 then says_nothing else entry_of (c ∷ s)

unfoldable pub line_of : List ℕ → Said
line_of s = trimmed_line (trim_end s)

-- the lines of a text, without their line feeds
abbrev pub lines_of : List ℕ → List (List ℕ)
lines_of s = slice_split is_line_feed s

-- the first of two tags, if there is one; otherwise the second
abbrev pub first_of : Option ℕ → Option ℕ → Option ℕ
first_of None other = other
first_of (Some tag) other = Some tag

-- names, and one more that comes before them
abbrev pub with_name : (ℕ → Option (List ℕ)) → Said → ℕ → Option (List ℕ)
with_name names (says_name t name) tag = if t == tag then Some name else names tag
with_name names _ tag = names tag

-- names, and those of some lines; a later line's comes before an earlier one's
abbrev pub names_after : (ℕ → Option (List ℕ)) → List (List ℕ) → ℕ → Option (List ℕ)
names_after names [] = names
names_after names (l ∷ ls) = names_after (with_name names (line_of l)) ls

-- the names that a table gives
unfoldable pub names_of : List ℕ → ℕ → Option (List ℕ)
names_of table = names_after no_names (lines_of table)

-- whether a line can be parsed
abbrev pub is_good : Said → Bool
is_good says_no_tag = false
is_good _ = true

-- the number of the first line that can't be parsed, counted from n
abbrev pub bad_from : ℕ → List (List ℕ) → Option ℕ
bad_from n [] = None
bad_from n (l ∷ ls) = if is_good (line_of l) then bad_from (suc n) ls else Some n

-- the number of the first line of a table that can't be parsed
unfoldable pub bad_line : List ℕ → Option ℕ
bad_line table = bad_from 1 (lines_of table)

-- why a table was not parsed
abbrev pub IsUnread : Option ℕ → TableError → Type 0
IsUnread bad (BadLine n) = bad ≡ Some n
IsUnread bad OutOfMemory = Unit {0}

-- the tag in a line, if the line gives it this name
abbrev pub tag_if : List ℕ → Said → Option ℕ
tag_if name (says_name tag own) = if bytes_eq own name then Some tag else None
tag_if name _ = None

-- the tag of the first line that gives this name
abbrev pub tag_among : List ℕ → List (List ℕ) → Option ℕ
tag_among name [] = None
tag_among name (l ∷ ls) = first_of (tag_if name (line_of l)) (tag_among name ls)

-- the tag to which a table gives a name
unfoldable pub tag_named : List ℕ → List ℕ → Option ℕ
tag_named name table = tag_among name (lines_of table)

-- the tag that a map has for a name
abbrev pub tag_in : {S : Type 0} → HashMap (Bor (List ℕ)) ℕ S → List ℕ → Option ℕ
tag_in tags name = get_by (λ k. bytes_eq name k.now) tags

-- what the code makes of a line
abbrev pub Means : Said → Line → Type 0
Means said held.Blank = said ≡ says_nothing
Means said (held.Name tag name) = said ≡ says_name tag name.now
Means said held.Bad = said ≡ says_no_tag

-- a line was added, if it can be parsed
pub record AddsLine (old : ℕ → Option (List ℕ)) (line : List ℕ) (good : Bool) (new : ℕ → Option (List ℕ)) : Type 0 where
  pub tells : good ≡ is_good (line_of line)
  pub adds : new ≡ with_name old (line_of line)
