-- All of a text.
use Rattle.std.specs.Prelude.{ℕ, ◌-◌, ◌==◌, ◌&&◌, not, Bool, true, false, List, [], ◌∷◌, ◌++◌, length, map, reverse, position, if◌then◌else◌}
use Rattle.std.specs.Prelude.{Option, Some, None, Result, Ok, Err, string_bytes}
use Rattle.std.specs.Str.{bytes_eq}
use Rattle.plain_xml.specs.declared.failure.Flaw.TheVariants.{Character, SecondRoot, EndTag, Unfinished}
use Rattle.plain_xml.specs.declared.failure.Fault.{Fault}
use Rattle.plain_xml.specs.declared.document.Progress.{Progress}
use Rattle.plain_xml.specs.Characters.{is_character}
use Rattle.plain_xml.specs.Faults.{◌>>=◌, fails, Stepped, steps}
use Rattle.plain_xml.specs.Elements.{Flat, Pair, element_view}
use Rattle.plain_xml.specs.Marks.{Piece, passed, opening, ending, mark_at}

-- how far it was read: the names of the open elements, the innermost first, and the elements so far
pub record State : Type 0 where
  pub names : List (List ℕ)
  pub done : List Flat

abbrev pub progress_view : {A : Type 0} → Progress A → State
progress_view p = record { names = reverse (map string_bytes p.names.items); done = map element_view p.elements.items }

-- the root has ended
abbrev pub is_closed : List (List ℕ) → List Flat → Bool
is_closed [] [] = false
is_closed [] (f ∷ fs) = true
is_closed (n ∷ ns) fs = false

-- the same, where so many elements are open of so many
abbrev pub has_ended : ℕ → ℕ → Bool
has_ended names elements = names == 0 && not (elements == 0)

-- a start tag is next
unfoldable pub opened : State → List ℕ → List Pair → Bool → List ℕ → Result State Fault
opened s name attributes empty text =
    if is_closed s.names s.done then fails SecondRoot text else Ok (record {
      names = if empty then s.names else name ∷ s.names;
      done = s.done ++ record { depth = length s.names; name = name; attributes = attributes } ∷ [];
    })

-- an end tag is next
abbrev pub ended_in : List (List ℕ) → List Flat → List ℕ → List ℕ → Result State Fault
ended_in [] done name text = fails EndTag text
ended_in (innermost ∷ names) done name text =
    if bytes_eq innermost name then Ok (record { names = names; done = done }) else fails EndTag text

abbrev pub ended : State → List ℕ → List ℕ → Result State Fault
ended s name text = ended_in s.names s.done name text

-- a piece is next
abbrev pub entered : State → Piece → List ℕ → Result State Fault
entered s passed text = Ok s
entered s (opening name attributes empty) text = opened s name attributes empty text
entered s (ending name) text = ended s name text

unfoldable pub next_piece : State → List ℕ → Stepped State
next_piece s text = do
  piece ← mark_at text
  next ← entered s piece.0 text
  Ok (Some (next, piece.1))

-- the same, where a text goes on
unfoldable pub next_pair : State → List ℕ → Result (State × List ℕ) Fault
next_pair s text = do
  piece ← mark_at text
  next ← entered s piece.0 text
  Ok (next, piece.1)

-- the elements, once the text has ended
abbrev pub finished : State → Result (List Flat) Fault
finished s = if is_closed s.names s.done then Ok s.done else fails Unfinished []

abbrev pub start : State
start = record { names = []; done = [] }

-- the elements of a text, whose characters are right
unfoldable pub elements_of : List ℕ → Result (List Flat) Fault
elements_of text = steps next_piece start text >>= λ x. finished x.0

-- a character is wrong, or none
abbrev pub checked : List ℕ → Option ℕ → Result (List Flat) Fault
checked text None = elements_of text
checked text (Some at) = Err (record { flaw = Character; left = length text - at })

-- the elements of a text
unfoldable pub document : List ℕ → Result (List Flat) Fault
document text = checked text (position (λ c. not (is_character c)) text)
