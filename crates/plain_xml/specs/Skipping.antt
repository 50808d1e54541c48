-- Comments and processing instructions, which are passed (XML 1.0, 2.5 and 2.6).
use Rattle.std.specs.Prelude.{ℕ, ◌==◌, ◌&&◌, List, [], ◌∷◌, if◌then◌else◌, Option, Some, None, Result, Ok}
use Rattle.plain_xml.specs.declared.failure.Flaw.TheVariants.{Comment, Declaration, Unfinished}
use Rattle.plain_xml.specs.declared.failure.Fault.{Fault}
use Rattle.plain_xml.specs.Faults.{fails}

-- what follows these two characters
abbrev pub behind_two : ℕ → ℕ → List ℕ → Option (List ℕ)
behind_two a b [] = None
behind_two a b (c ∷ []) = None
behind_two a b (c ∷ d ∷ rest) = if c == a && d == b then Some rest else None

-- two hyphens end a comment
abbrev pub comment_end : List ℕ → Result (List ℕ) Fault
comment_end [] = fails Comment []
comment_end (c ∷ cs) = if c == 62 then Ok cs else fails Comment (c ∷ cs)

-- what is made of what follows two characters, or of the rest
abbrev pub or_on : Option (List ℕ) → (List ℕ → Result (List ℕ) Fault) → Result (List ℕ) Fault → Result (List ℕ) Fault
or_on None end on = on
or_on (Some rest) end on = end rest

-- what follows a comment, of which this is the rest
abbrev pub after_comment : List ℕ → Result (List ℕ) Fault
after_comment [] = fails Unfinished []
after_comment (c ∷ cs) = or_on (behind_two 45 45 (c ∷ cs)) comment_end (after_comment cs)

-- the same of one that begins behind a <!
abbrev pub comment_behind : List ℕ → Option (List ℕ) → Result (List ℕ) Fault
comment_behind text None = fails Declaration text
comment_behind text (Some rest) = after_comment rest

unfoldable pub comment_at : List ℕ → Result (List ℕ) Fault
comment_at text = comment_behind text (behind_two 45 45 text)

-- what follows a processing instruction, of which this is the rest
abbrev pub after_instruction : List ℕ → Result (List ℕ) Fault
after_instruction [] = fails Unfinished []
after_instruction (c ∷ cs) = or_on (behind_two 63 62 (c ∷ cs)) (λ rest. Ok rest) (after_instruction cs)
