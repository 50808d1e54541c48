-- What a table says of words and numbers: the first of its rows that speaks of one.
use Rattle.std.specs.Prelude.{ℕ, ◌==◌, ◌&&◌, List, [], ◌∷◌, Option, Some, None, if◌then◌else◌, bytes_eq, option_map, option_and_then}
use Rattle.std.specs.Prelude.{length, nat_lt}
use Rattle.std.specs.Borrow.{Bor}
use Rattle.std.specs.HashMap.{get_by, HashMap}
use Rattle.std.specs.List.{position_or_len, before_first, after_first}
use Rattle.kmip_ttlv_types.specs.Names.{number}
use Rattle.kmip_ttlv_names.specs.NameTables.{is_space, lines_of}

-- a list, a number of it, and its word
abbrev pub Entry : Type 0
Entry = ℕ × ℕ × List ℕ

-- what stands before the first space, and behind it
abbrev pub parted : List ℕ → Option (List ℕ × List ℕ)
parted s =
    if nat_lt (position_or_len is_space s) (length s)
    then Some (before_first is_space s, after_first is_space s)
    else None

-- a row with these numbers, if they are there
abbrev pub entry_of : Option ℕ → Option ℕ → List ℕ → Option Entry
entry_of None number word = None
entry_of (Some list) None word = None
entry_of (Some list) (Some number) word = Some (list, number, word)

-- a list, a space, a number, a space and a word
abbrev pub number_and_word : List ℕ → List ℕ × List ℕ → Option Entry
number_and_word list p = entry_of (number list) (number p.0) p.1

abbrev pub rest_of_row : List ℕ × List ℕ → Option Entry
rest_of_row p = option_and_then (number_and_word p.0) (parted p.1)

unfoldable pub row_of : List ℕ → Option Entry
row_of line = option_and_then rest_of_row (parted line)

-- the first of two, if there is one; otherwise the second
abbrev pub first_of : {A : Type 0} → Option A → Option A → Option A
first_of None other = other
first_of (Some a) other = Some a

-- the number in a row, if the row is of this list and word
abbrev pub number_if : Entry → ℕ → List ℕ → Option ℕ
number_if row list word = if (row.0 == list) && bytes_eq row.2 word then Some row.1 else None

abbrev pub number_said : Option Entry → ℕ → List ℕ → Option ℕ
number_said None list word = None
number_said (Some row) list word = number_if row list word

-- the number in the first such row
abbrev pub number_among : List (List ℕ) → ℕ → List ℕ → Option ℕ
number_among [] list word = None
number_among (l ∷ ls) list word = first_of (number_said (row_of l) list word) (number_among ls list word)

unfoldable pub number_named : List ℕ → ℕ → List ℕ → Option ℕ
number_named table list word = number_among (lines_of table) list word

-- the word in a row, if the row is of this list and number
abbrev pub word_if : Entry → ℕ → ℕ → Option (List ℕ)
word_if row list number = if (row.0 == list) && (row.1 == number) then Some row.2 else None

abbrev pub word_said : Option Entry → ℕ → ℕ → Option (List ℕ)
word_said None list number = None
word_said (Some row) list number = word_if row list number

-- the word in the first such row
abbrev pub word_among : List (List ℕ) → ℕ → ℕ → Option (List ℕ)
word_among [] list number = None
word_among (l ∷ ls) list number = first_of (word_said (row_of l) list number) (word_among ls list number)

unfoldable pub word_named : List ℕ → ℕ → ℕ → Option (List ℕ)
word_named table list number = word_among (lines_of table) list number

-- the number that a map has for a word
abbrev pub number_in : {S : Type 0} → HashMap (ℕ × Bor (List ℕ)) ℕ S → ℕ → List ℕ → Option ℕ
number_in numbers list word = get_by (λ k. (list == k.0) && bytes_eq word k.1.now) numbers

-- the word that a map has for a number
abbrev pub word_in : {S : Type 0} → HashMap (ℕ × ℕ) (Bor (List ℕ)) S → ℕ → ℕ → Option (List ℕ)
word_in words list number = option_map (λ s. s.now) (get_by (λ k. (list == k.0) && (number == k.1)) words)
