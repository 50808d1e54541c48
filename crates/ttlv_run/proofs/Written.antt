-- What counts of a name, and the lines of a table that have it.
use Rattle.std.proofs.Common.{◌≡◌, ◌∙◌, ℕ, ◌<◌, true, false, List, [], ◌∷◌, length, Option, Some, None, ap, refl, arith}
use Rattle.std.specs.Char.{to_ascii_lowercase}
use Rattle.std.specs.List.{position_or_len, before_first, after_first}
use Rattle.kmip_ttlv_names.specs.NameTables.{is_line_feed, first_of, line_of}
use Rattle.kmip_ttlv_names.proofs.Tables.{first_line, last_line}
use Rattle.ttlv_run.specs.Spellings.{is_left_out, bare_name, named_in, tag_in_line, tag_in_lines, tag_written}

-- no byte
pub bare_none : (s : List ℕ) → length s ≡ 0 → bare_name s ≡ []
unfolding bare_name
bare_none [] is = refl
bare_none (b ∷ s) is = absurd (omega (arith, is))

-- a byte that counts for nothing, and another
pub bare_behind : {s t : List ℕ} {b : ℕ} → s ≡ b ∷ t → is_left_out b ≡ true → bare_name s ≡ bare_name t
unfolding bare_name
bare_behind is out = rw (is, out) refl

pub bare_first : {s t : List ℕ} {b : ℕ} → s ≡ b ∷ t → is_left_out b ≡ false → bare_name s ≡ to_ascii_lowercase b ∷ bare_name t
unfolding bare_name
bare_first is out = rw (is, out) refl

-- the tag is that in the first line, or else in the others
pub first_written : (word rest line more : List ℕ) → position_or_len is_line_feed rest < length rest → line ≡ before_first is_line_feed rest
    → more ≡ after_first is_line_feed rest
    → tag_written word rest ≡ first_of (tag_in_line word (named_in (line_of line))) (tag_written word more)
unfolding tag_written
first_written word rest line more lt l m = ap (tag_in_lines word) (first_line rest line more lt l m)

first_none : (o : Option ℕ) → first_of o None ≡ o
first_none None = refl
first_none (Some x) = refl

pub last_written : (word rest : List ℕ) → position_or_len is_line_feed rest ≡ length rest
    → tag_written word rest ≡ tag_in_line word (named_in (line_of rest))
unfolding tag_written
last_written word rest is = ap (tag_in_lines word) (last_line rest is) ∙ first_none (tag_in_line word (named_in (line_of rest)))
