-- Lines of dumps, as xxd, hexdump, od and tcpdump print them, and what counts of each: the digits of its hexadecimal column.
use Rattle.std.specs.Prelude.{◌≡◌, ℕ, ◌==◌, ◌&&◌, not, Bool, true, false, List, [], ◌∷◌, ◌++◌}
use Rattle.ttlv_run.specs.declared.form.Form.{Form}
use Rattle.ttlv_run.specs.declared.form.LinePart.TheVariants.{Begin}
use Rattle.ttlv_run.specs.Columns.{is_hex_digit, Reads}

-- each byte of a text is of a kind
abbrev pub only : (ℕ → Bool) → List ℕ → Bool
only kind [] = true
only kind (b ∷ s) = kind b && only kind s

abbrev pub is_space : ℕ → Bool
is_space b = b == 32

-- any byte but a line feed
abbrev pub is_in_line : ℕ → Bool
is_in_line b = not (b == 10)

-- an offset has a digit, and no more than digits
abbrev pub is_offset : List ℕ → Bool
is_offset [] = false
is_offset (b ∷ s) = is_hex_digit b && only is_hex_digit s

-- groups of digits with a space behind each, in front of what follows them
abbrev pub space_groups : List (List ℕ) → List ℕ → List ℕ
space_groups [] rest = rest
space_groups (group ∷ groups) rest = group ++ 32 ∷ space_groups groups rest

-- the digits of groups
abbrev pub join_groups : List (List ℕ) → List ℕ
join_groups [] = []
join_groups (group ∷ groups) = group ++ join_groups groups

-- each group has a digit, and no more than digits
abbrev pub are_groups : List (List ℕ) → Bool
are_groups [] = true
are_groups (group ∷ groups) = is_offset group && are_groups groups

-- a text begins with a line of xxd: an offset, a colon, spaces, groups of digits with a space behind each, one more space, the
-- column of characters and a line feed; then there is a rest
pub record ColonLine (t column rest : List ℕ) : Type 0 where
  pub offset : List ℕ
  pub spaces : List ℕ
  pub group : List ℕ
  pub groups : List (List ℕ)
  pub characters : List ℕ
  pub is : t ≡ offset ++ 58 ∷ (spaces ++ space_groups (group ∷ groups) (32 ∷ (characters ++ 10 ∷ rest)))
  pub of_offset : is_offset offset ≡ true
  pub of_spaces : only is_space spaces ≡ true
  pub of_groups : are_groups (group ∷ groups) ≡ true
  pub in_line : only is_in_line characters ≡ true
  pub column_is : column ≡ join_groups (group ∷ groups)

-- a byte in two digits, a space and maybe more
pub record DumpedByte : Type 0 where
  pub high : ℕ
  pub low : ℕ
  pub spaces : List ℕ

abbrev pub is_dumped : DumpedByte → Bool
is_dumped d = is_hex_digit d.high && (is_hex_digit d.low && only is_space d.spaces)

abbrev pub are_dumped : List DumpedByte → Bool
are_dumped [] = true
are_dumped (d ∷ ds) = is_dumped d && are_dumped ds

-- such bytes in front of what follows them
abbrev pub write_bytes : List DumpedByte → List ℕ → List ℕ
write_bytes [] rest = rest
write_bytes (d ∷ ds) rest = d.high ∷ d.low ∷ 32 ∷ (d.spaces ++ write_bytes ds rest)

abbrev pub digits_of : List DumpedByte → List ℕ
digits_of [] = []
digits_of (d ∷ ds) = d.high ∷ d.low ∷ digits_of ds

-- a text begins with a line of hexdump -C: an offset, a space and maybe more, bytes, `|`, the column of characters (with its
-- own `|`) and a line feed; then there is a rest
pub record BareLine (t column rest : List ℕ) : Type 0 where
  pub offset : List ℕ
  pub spaces : List ℕ
  pub bytes : List DumpedByte
  pub characters : List ℕ
  pub is : t ≡ offset ++ 32 ∷ (spaces ++ write_bytes bytes (124 ∷ (characters ++ 10 ∷ rest)))
  pub of_offset : is_offset offset ≡ true
  pub of_spaces : only is_space spaces ≡ true
  pub of_bytes : are_dumped bytes ≡ true
  pub in_line : only is_in_line characters ≡ true
  pub column_is : column ≡ digits_of bytes

-- where a text stands at the beginning of a line, that line is read with the digits of a column, and the rest is left
abbrev pub CountsColumn : Form → List ℕ → List ℕ → List ℕ → Type 0
CountsColumn form t column rest =
    (s digits : List ℕ) → Reads form Begin s digits Begin t → Reads form Begin s (digits ++ column) Begin rest
