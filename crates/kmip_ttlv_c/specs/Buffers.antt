-- What a call that returns a text does to the caller's buffer.
use Rattle.std.specs.Prelude.{◌≡◌, ◌⊎◌, ℕ, ◌<◌, ◌≤◌, List, ◌++◌, length, drop}
use Rattle.kmip_ttlv_c.specs.declared.status.TheConstants.{OK, NO_ROOM}

-- the whole text is at the front of the buffer, and what follows is unchanged; the text's length is set
pub record Gives (text : List ℕ) (status len : ℕ) (old new : List ℕ) : Type 0 where
  pub status_is : status ≡ OK
  pub length_is : len ≡ length text
  pub fits : length text ≤ length old
  pub buffer : new ≡ text ++ drop (length text) old

-- the text is longer than the buffer, which is unchanged; the text's length is set
pub record LacksRoom (text : List ℕ) (status len : ℕ) (old new : List ℕ) : Type 0 where
  pub status_is : status ≡ NO_ROOM
  pub length_is : len ≡ length text
  pub too_long : length old < length text
  pub buffer : new ≡ old

-- a text is written, or there is no room for it
abbrev pub Offers : List ℕ → ℕ → ℕ → List ℕ → List ℕ → Type 0
Offers text status len old new = Gives text status len old new ⊎ LacksRoom text status len old new

-- a call returns a text of this kind; or it fails with this status, sets the length to 0, and leaves the buffer unchanged
pub data AnswersText (IsText : List ℕ → Type 0) (Fails : ℕ → Type 0)
    (status len : ℕ) (old new : List ℕ) : Type 0 where
  offers :
      (text : List ℕ)
      → IsText text
      → Offers text status len old new
      → AnswersText IsText Fails status len old new
  refuses : Fails status → len ≡ 0 → new ≡ old → AnswersText IsText Fails status len old new
