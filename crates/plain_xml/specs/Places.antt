-- Where in a text an element begins, by the pieces in front of it.
use Rattle.std.specs.Prelude.{ℕ, zero, suc, ◌-◌, List, [], length, take, Option, Some, None, option_map, Result, Ok, Err, encode_utf8_all}
use Rattle.plain_xml.specs.declared.failure.Fault.{Fault}
use Rattle.plain_xml.specs.Faults.{◌>>=◌, Stepped, steps}
use Rattle.plain_xml.specs.Marks.{Piece, passed, opening, ending, mark_at}

-- how many elements are left in front of the one that is looked for, behind a piece; nothing if the piece is its start tag
abbrev pub counted : ℕ → Piece → Option ℕ
counted zero (opening name attributes empty) = None
counted (suc n) (opening name attributes empty) = Some n
counted n passed = Some n
counted n (ending name) = Some n

-- the next piece is passed, unless it is that start tag
unfoldable pub next_mark : ℕ → List ℕ → Stepped ℕ
next_mark n text = mark_at text >>= λ piece. Ok (option_map (λ left. (left, piece.1)) (counted n piece.0))

-- what is left of a text from the start tag on that has so many others in front of it
unfoldable pub from_element : ℕ → List ℕ → Result (List ℕ) Fault
from_element n text = steps next_mark n text >>= λ x. Ok x.1

-- the same; nothing, if the text is none before
abbrev pub or_nothing : Result (List ℕ) Fault → List ℕ
or_nothing (Ok rest) = rest
or_nothing (Err fault) = []

-- how many bytes the first so many characters of a text take
abbrev pub bytes_before : List ℕ → ℕ → ℕ
bytes_before text n = length (encode_utf8_all (take n text))

-- the offset of the element that has so many others in front of it, in bytes
unfoldable pub element_offset : ℕ → List ℕ → ℕ
element_offset n text = bytes_before text (length text - length (or_nothing (from_element n text)))
