-- What a stored text is, and the rows that texts are stored in.
use Rattle.std.specs.Prelude.{ℕ, suc, List, [], ◌∷◌, Option, Some, None, ◌==◌, if◌then◌else◌}
use Rattle.kmip_ttlv_types.specs.Names.{number}
use Rattle.kmip_ttlv_reader.specs.declared.store.StoredText.{StoredText}
use Rattle.kmip_ttlv_reader.specs.declared.store.Row.{Row}
use Rattle.kmip_ttlv_reader.specs.declared.store.TextNumber.{TextNumber}
use Rattle.kmip_ttlv_reader.specs.declared.store.TextNumber.TheVariants as numbers
use Rattle.kmip_ttlv_reader.specs.declared.store.TextPlace.{TextPlace}
use Rattle.kmip_ttlv_reader.specs.declared.store.TextPlace.TheVariants as places

-- a lent text, or the text of a number
abbrev pub text_at : TextPlace → List ℕ
text_at (places.Lent s) = s.now
text_at (places.Number n) = n.digits

-- a stored text
abbrev pub text_of : StoredText → List ℕ
text_of h = text_at h.place

-- the number that a text is, parsed before or not
abbrev pub number_by : TextNumber → List ℕ → Option ℕ
number_by numbers.Unparsed s = number s
number_by (numbers.Parsed n) s = n

-- a stored text, and the number that it is, if it is one
abbrev pub stored_text_of : StoredText → List ℕ × Option ℕ
stored_text_of h = (text_of h, number_by h.number (text_of h))

-- the row that takes a text under a tag: the first that is empty or holds a text under it, or else after the last
abbrev pub row_for : List (Option Row) → ℕ → ℕ
row_for [] t = 0
row_for (None ∷ rows) t = 0
row_for (Some r ∷ rows) t = if r.tag == t then 0 else suc (row_for rows t)

-- what the rows hold under a tag; where they hold nothing under it, something else
abbrev pub in_rows : List (Option Row) → Option StoredText → ℕ → Option StoredText
in_rows [] other t = other
in_rows (None ∷ rows) other t = in_rows rows other t
in_rows (Some r ∷ rows) other t = if r.tag == t then Some r.stored_text else in_rows rows other t
