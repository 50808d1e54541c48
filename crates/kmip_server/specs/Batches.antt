-- What became of a batch: which of its items were done, in which order, and what was answered.
use Rattle.std.specs.Prelude.{◌≡◌, ◌++◌, Bool, false, List, [], ◌∷◌, MatchBool}
use Rattle.std.specs.List.{list_any}

-- nothing more is answered, and nothing more is done
pub record IsEnd {W P : Type 0} (here : W) (answers : List P) (new : W) : Type 0 where
  pub no_more : answers ≡ []
  pub unchanged : new ≡ here

-- From old these are the answers to the items asked, one by one in their order, and new is what they lead to. Where an answer `ends` the
-- batch it is the last, and none of the items behind it is done; otherwise every item is answered.
abbrev pub AreAnswers : {W Q P : Type 0} → (W → Q → P → W → Type 0) → (P → Bool) → W → List Q → List P → W → Type 0
AreAnswers Answers ends old [] [] new = new ≡ old
AreAnswers Answers ends old [] (answer ∷ answers) new = ⊥
AreAnswers Answers ends old (item ∷ items) [] new = ⊥
AreAnswers {W} Answers ends old (item ∷ items) (answer ∷ answers) new =
    (mid : W) × Answers old item answer mid × MatchBool (ends answer) (IsEnd mid answers new) (AreAnswers Answers ends mid items answers new)

-- From old a batch breaks off at one of the items asked, and leads to new: those before it are answered, and none of their answers ends the
-- batch; it has no answer; and none of those behind it is done
pub record BreaksOff {W Q P : Type 0} (Answers : W → Q → P → W → Type 0) (Unanswered : W → Q → W → Type 0) (ends : P → Bool) (old : W) (items : List Q)
    (new : W) : Type 0 where
  pub before : List Q
  pub item : Q
  pub behind : List Q
  pub items_are : items ≡ before ++ item ∷ behind
  pub answers : List P
  pub mid : W
  pub answered : AreAnswers Answers ends old before answers mid
  pub go_on : list_any ends answers ≡ false
  pub unanswered : Unanswered mid item new
