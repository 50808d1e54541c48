-- The parts of a line.
use Rattle.std.proofs.Common.{◌≡◌, ◌<◌, ℕ, List, length, Option, Some, None, ap, refl, arith}
use Rattle.std.specs.List.{position_or_len, before_first, after_first}
use Rattle.std.proofs.lemmas.Bool.{lt-ltb, le-ltb}
use Rattle.std.specs.Prelude.{option_and_then}
use Rattle.kmip_ttlv_names.specs.NameTables.{is_space}
use Rattle.kmip_words.specs.Rows.{parted, number_and_word, rest_of_row, row_of}

-- without a space there are none
pub no_parts : (s : List ℕ) → position_or_len is_space s ≡ length s → parted s ≡ None
no_parts s is = rw (le-ltb (position_or_len is_space s) (length s) (omega arith)) refl

pub two_parts : (s a b : List ℕ) → position_or_len is_space s < length s → a ≡ before_first is_space s → b ≡ after_first is_space s
    → parted s ≡ Some (a, b)
two_parts s a b lt d n = rw (lt-ltb (position_or_len is_space s) (length s) lt, d, n) refl

pub row_is : (line : List ℕ) (p : Option (List ℕ × List ℕ)) → parted line ≡ p → row_of line ≡ option_and_then rest_of_row p
unfolding row_of
row_is line p e = ap (option_and_then rest_of_row) e

pub rest_is : (list rest : List ℕ) (p : Option (List ℕ × List ℕ)) → parted rest ≡ p → rest_of_row (list, rest) ≡ option_and_then (number_and_word list) p
rest_is list rest p e = ap (option_and_then (number_and_word list)) e
