-- What a call for names returns, by another term for the name.
use Rattle.std.proofs.Common.{◌≡◌, ℕ, List, Option, subst}
use Rattle.kmip_ttlv_c.specs.{Buffers.AnswersText, NameTexts.IsName, NameTexts.NameFails}

pub named_as : (a b : Option (List ℕ)) (status len : ℕ) (old new : List ℕ) → a ≡ b → AnswersText (IsName a) (NameFails a) status len old new
    → AnswersText (IsName b) (NameFails b) status len old new
named_as a b status len old new is answers = subst (λ (name : Option (List ℕ)). AnswersText (IsName name) (NameFails name) status len old new) is answers
