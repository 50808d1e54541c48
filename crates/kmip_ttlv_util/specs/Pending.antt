-- Definitions for the calls that read a diagnostic back: the pending end of a line.
use Rattle.std.specs.Prelude.{codes, ℕ, Bool, true, false, List, [], ◌∷◌, ◌++◌}

-- the pending end of a line, if there is one: all that follows its type
abbrev pub pending_text : Bool → List ℕ → List ℕ
pending_text false shown = []
pending_text true shown = codes ", Data: " ++ (shown ++ (10 ∷ []))

-- the same of the last line, without white space at its end
abbrev pub last_text : Bool → List ℕ → List ℕ
last_text false shown = []
last_text true [] = codes ", Data:"
last_text true (c ∷ shown) = codes ", Data: " ++ (c ∷ shown)
