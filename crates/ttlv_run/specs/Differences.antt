-- The lines of two texts, each behind a mark of two characters that says in which of them it stands.
use Rattle.std.specs.Prelude.{◌≡◌, ◌≢◌, ℕ, ◌-◌, ◌==◌, Bool, true, false, List, [], ◌∷◌, ◌++◌, length, take, drop, map, not, codes, slice_index, slice_index_or, if◌then◌else◌}
use Rattle.std.specs.List.{filter, flat_map}
use Rattle.kmip_ttlv_names.specs.NameTables.{lines_of}

-- lines, without the last one if that is empty
abbrev pub without_empty_last : List (List ℕ) → List (List ℕ)
without_empty_last lines =
    if length (slice_index_or lines (length lines - 1) []) == 0 then take (length lines - 1) lines else lines

-- the lines of a text, without their line feeds; behind the last line feed there is none, unless something stands there
abbrev pub lines_in : List ℕ → List (List ℕ)
lines_in text = without_empty_last (lines_of text)

-- a line behind a mark
abbrev pub behind : List ℕ → List ℕ → List ℕ
behind mark line = mark ++ (line ++ 10 ∷ [])

-- a line that stands in both texts, in the first alone, or in the second alone
pub data Marked : Type 0 where
  in_both : List ℕ → Marked
  in_first : List ℕ → Marked
  in_second : List ℕ → Marked

-- what the first text has of it, and the second
abbrev pub first_of : Marked → List (List ℕ)
first_of (in_both line) = line ∷ []
first_of (in_first line) = line ∷ []
first_of (in_second line) = []

abbrev pub second_of : Marked → List (List ℕ)
second_of (in_both line) = line ∷ []
second_of (in_first line) = []
second_of (in_second line) = line ∷ []

-- how it is printed
abbrev pub marked_text : Marked → List ℕ
marked_text (in_both line) = behind (codes "  ") line
marked_text (in_first line) = behind (codes "- ") line
marked_text (in_second line) = behind (codes "+ ") line

-- a text is that of marked lines, of which those of the first text are all of its lines, in order, and likewise those of the second
pub record AreMarked (first second : List (List ℕ)) (text : List ℕ) : Type 0 where
  pub lines : List Marked
  pub firsts : flat_map first_of lines ≡ first
  pub seconds : flat_map second_of lines ≡ second
  pub printed : text ≡ flat_map marked_text lines

-- the lines of the first text, as they are read back from what is printed: those behind any mark but the second's; and those of the second
abbrev pub first_printed : List ℕ → List (List ℕ)
first_printed text = map (drop 2) (filter (λ line. not (slice_index line 0 == 43)) (lines_in text))

abbrev pub second_printed : List ℕ → List (List ℕ)
second_printed text = map (drop 2) (filter (λ line. not (slice_index line 0 == 45)) (lines_in text))

-- the lines of two texts were added, marked
pub record AddsAll (first second : List (List ℕ)) (old new : List ℕ) : Type 0 where
  pub text : List ℕ
  pub marked : AreMarked first second text
  pub added : new ≡ old ++ text

-- what is added of two texts, by their lines, and whether these differ: nothing if they are equal
abbrev pub AddsDifferences : List (List ℕ) → List (List ℕ) → List ℕ → List ℕ → Bool → Type 0
AddsDifferences first second old new false = (first ≡ second) × (new ≡ old)
AddsDifferences first second old new true = (first ≢ second) × AddsAll first second old new
