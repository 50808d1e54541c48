-- What a step of a search returns.
use Rattle.std.specs.Prelude.{◌≡◌, ℕ, ◌+◌, ◌-◌, ◌<◌, ◌≤◌, length, drop}
use Rattle.ttlv_captures.specs.declared.search.Capture.{Capture}
use Rattle.ttlv_captures.specs.declared.search.Search.{Search}
use Rattle.ttlv_captures.specs.declared.search.Sought.{Sought}
use Rattle.ttlv_captures.specs.declared.search.Sought.TheVariants.{Found, Nothing, GaveUp}
use Rattle.ttlv_captures.specs.Captures.{StandsFirst, NoneBetween, costs, limit}

-- what was read in vain between the offset where a step began and another is taken off the rest of what may be
abbrev pub Spends : Search → Search → ℕ → Type 0
Spends old new to = new.rest ≤ old.rest - costs (drop old.offset old.text.now) (to - old.offset)

-- this message stands first, and the search is behind it
pub record Finds {A : Type 0} (old new : Search) (c : Capture A) : Type 0 where
  pub stands : StandsFirst old.text.now old.offset c.offset c.written.notation c.written.message.items c.written.taken
  pub behind : new.offset ≡ c.offset + c.written.taken
  pub onward : old.offset < new.offset
  pub spends : Spends old new c.offset

-- no message begins from where the step began up to an offset
pub record Passes (old new : Search) (to : ℕ) : Type 0 where
  pub none : NoneBetween old.text.now old.offset to
  pub at : new.offset ≡ to
  pub onward : old.offset ≤ to
  pub spends : Spends old new to

-- the next message, the end of the text, or an offset in front of which more was read in vain than may be
abbrev pub Seeks : {A : Type 0} → Search → Search → Sought A → Type 0
Seeks old new (Found c) = Finds old new c
Seeks old new Nothing = Passes old new (length old.text.now)
Seeks old new (GaveUp offset) =
    Passes old new offset × (limit (length old.text.now) ≤ costs old.text.now offset)
