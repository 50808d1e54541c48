-- A table of names with a user's behind it, or why there is none.
use Rattle.std.specs.Prelude.{◌≡◌, ◌+◌, ℕ, Bool, false, not, ◌&&◌, ◌==◌, List, [], ◌∷◌, ◌++◌, Option, Some, None, codes}
use Rattle.std.specs.Fmt.{decimal}
use Rattle.std.specs.List.{list_any, position_from}
use Rattle.std.specs.Str.{IsUtf8, chars, trim_end}
use Rattle.kmip_ttlv_names.specs.NameTables.{lines_of}
use Rattle.kmip_ttlv_names.specs.OwnNames.{bad_own_line}
use Rattle.ttlv_run.specs.declared.run_error.RunError.TheVariants.{NotUtf8}
use Rattle.ttlv_run.specs.declared.table.TableFault.{TableFault}
use Rattle.ttlv_run.specs.declared.table.TableFault.TheVariants.{Unread, NamesNothing, Hides}
use Rattle.ttlv_run.specs.Escapes.{is_hidden}
use Rattle.ttlv_run.specs.Inputs.{IsUnread, TakesAll}
use Rattle.ttlv_run.specs.Reasons.{place_report, status_of, error_line}

-- a line is a comment
abbrev pub is_comment : List ℕ → Bool
is_comment [] = false
is_comment (c ∷ s) = c == 35

-- a line that is none has a character that isn't shown as itself, in front of white space at its end
abbrev pub has_hidden : List ℕ → Bool
has_hidden line = not (is_comment line) && list_any is_hidden (chars (trim_end line))

-- how many lines precede the first such line
abbrev pub hidden_line : List ℕ → Option ℕ
hidden_line table = position_from has_hidden 0 (lines_of table)

-- the whole input was taken, each of its lines is one of a table, and it stands behind another table
pub record IsJoined (standard : List ℕ) (old new : Option (List ℕ)) (joined : List ℕ) : Type 0 where
  pub table : List ℕ
  pub taken : TakesAll old new table
  pub is_text : IsUtf8 table
  pub good : bad_own_line table ≡ None
  pub shown : hidden_line table ≡ None
  pub is : joined ≡ standard ++ table

-- why there is none: the input can't be read or is no text, one of its lines names nothing or hides a character, or memory ran out
abbrev pub LacksTable : Bool → Option (List ℕ) → Option (List ℕ) → TableFault → Type 0
LacksTable can_fail old new (Unread NotUtf8) = (table : List ℕ) × TakesAll old new table × (IsUtf8 table → ⊥)
LacksTable can_fail old new (Unread why) = IsUnread can_fail why
LacksTable can_fail old new (NamesNothing line) = (table : List ℕ) × TakesAll old new table × (bad_own_line table ≡ Some line)
LacksTable can_fail old new (Hides before) = (table : List ℕ) × TakesAll old new table × (hidden_line table ≡ Some before)

-- 3 out of memory, and else 2
abbrev pub table_status : TableFault → ℕ
table_status (Unread why) = status_of why
table_status fault = 2

-- the line on standard error, of a table with this name: lines count from 1
abbrev pub table_line : List ℕ → TableFault → List ℕ
table_line name (Unread why) = error_line name why
table_line name (NamesNothing line) = place_report name None ++ codes ": line " ++ decimal line ++ codes " names no tag\n"
table_line name (Hides before) =
    place_report name None ++ codes ": line " ++ decimal (before + 1) ++ codes " has a control character, or one that can't be seen\n"
