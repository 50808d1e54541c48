-- The ends of the structures that are open where a walk is.
use Rattle.std.specs.Prelude.{ℕ, List, ◌∷◌, reverse, Option, Some, None}
use Rattle.kmip_ttlv_items.specs.declared.ends.Ends.{Ends}

-- some ends, and one more in front of them, if there is one
abbrev pub in_front : Option ℕ → List ℕ → List ℕ
in_front None es = es
in_front (Some e) es = e ∷ es

-- the ends of open structures, the innermost first
abbrev pub open_ends : {A : Type 0} → Ends A → List ℕ
open_ends ends = in_front ends.innermost (reverse ends.outer.items)
