-- The pieces that a text is made of.
use Rattle.std.specs.Prelude.{ℕ, ◌==◌, Bool, List, [], ◌∷◌, map, if◌then◌else◌, Result, Ok, string_bytes}
use Rattle.plain_xml.specs.declared.failure.Flaw.TheVariants.{Text}
use Rattle.plain_xml.specs.declared.failure.Fault.{Fault}
use Rattle.plain_xml.specs.declared.mark.Mark.{Mark}
use Rattle.plain_xml.specs.declared.mark.Mark.TheVariants.{Passed, Opens, Ends}
use Rattle.plain_xml.specs.Characters.{is_space}
use Rattle.plain_xml.specs.Faults.{◌>>=◌, fails}
use Rattle.plain_xml.specs.Elements.{Pair, attribute_view}
use Rattle.plain_xml.specs.Tags.{opening_at, ending_at}
use Rattle.plain_xml.specs.Skipping.{comment_at, after_instruction}

-- what is passed, a start tag, and an end tag
pub data Piece : Type 0 where
  passed : Piece
  opening : (name : List ℕ) → (attributes : List Pair) → (empty : Bool) → Piece
  ending : (name : List ℕ) → Piece

abbrev pub mark_view : {A : Type 0} → Mark A → Piece
mark_view Passed = passed
mark_view (Opens o) = opening (string_bytes o.name) (map attribute_view o.attributes.items) o.is_empty
mark_view (Ends name) = ending (string_bytes name)

-- what begins behind a <, and what follows it
abbrev pub opening_piece : List ℕ → Result (Piece × List ℕ) Fault
opening_piece text = opening_at text >>= λ x. Ok (opening x.0 x.1 x.2, x.3)

abbrev pub ending_piece : List ℕ → Result (Piece × List ℕ) Fault
ending_piece text = ending_at text >>= λ x. Ok (ending x.0, x.1)

abbrev pub passed_piece : Result (List ℕ) Fault → Result (Piece × List ℕ) Fault
passed_piece read = read >>= λ rest. Ok (passed, rest)

unfoldable pub markup_at : List ℕ → Result (Piece × List ℕ) Fault
markup_at [] = opening_piece []
markup_at (c ∷ cs) =
    if c == 47 then ending_piece cs else
    if c == 33 then passed_piece (comment_at cs) else
    if c == 63 then passed_piece (after_instruction cs) else opening_piece (c ∷ cs)

-- a piece, and what follows it
unfoldable pub mark_at : List ℕ → Result (Piece × List ℕ) Fault
mark_at [] = fails Text []
mark_at (c ∷ cs) = if c == 60 then markup_at cs else if is_space c then Ok (passed, cs) else fails Text (c ∷ cs)
