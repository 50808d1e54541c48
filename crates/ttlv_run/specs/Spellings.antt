-- Names of tags as people write them.
use Rattle.std.specs.Prelude.{ℕ, Bool, ◌||◌, ◌==◌, List, [], ◌∷◌, bytes_eq, Option, Some, None, if◌then◌else◌}
use Rattle.std.specs.Char.{to_ascii_lowercase}
use Rattle.kmip_ttlv_names.specs.NameTables.{Said, says_name, line_of, lines_of, first_of}

-- a byte of a name counts for nothing: it is a space, a hyphen or an underscore
abbrev pub is_left_out : ℕ → Bool
is_left_out b = b == 32 || b == 45 || b == 95

-- what counts of a name: its other bytes, ASCII letters in lowercase
unfoldable pub bare_name : List ℕ → List ℕ
bare_name [] = []
bare_name (b ∷ s) = if is_left_out b then bare_name s else to_ascii_lowercase b ∷ bare_name s

-- the tag and the name in a line of a table, if it names one
abbrev pub named_in : Said → Option (ℕ × List ℕ)
named_in (says_name tag name) = Some (tag, name)
named_in _ = None

-- the tag, if the name is what people write so
abbrev pub tag_in_line : List ℕ → Option (ℕ × List ℕ) → Option ℕ
tag_in_line word None = None
tag_in_line word (Some named) = if bytes_eq (bare_name named.1) (bare_name word) then Some named.0 else None

-- the tag in the first of some lines whose name is what people write so
abbrev pub tag_in_lines : List ℕ → List (List ℕ) → Option ℕ
tag_in_lines word [] = None
tag_in_lines word (l ∷ ls) = first_of (tag_in_line word (named_in (line_of l))) (tag_in_lines word ls)

-- the same, of a table
unfoldable pub tag_written : List ℕ → List ℕ → Option ℕ
tag_written word table = tag_in_lines word (lines_of table)
