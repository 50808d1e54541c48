use Rattle.std.proofs.Common.{ℕ, ◌<◌, List, [], length, get_or, inl, inr, arith, refl}
use Rattle.std.proofs.lemmas.{Bool.cases_lt, List.get_or_past}
use Rattle.kmip_ttlv_items.specs.ItemWalks.{AreBytes, at_first}
use Rattle.kmip_ttlv_items.proofs.Completes.{ends}
use Rattle.kmip_ttlv_items.proofs.laws.a_walk_ends.Goals as goal

plain : (w : List ℕ) → AreBytes w → (k : ℕ) → get_or w k 0 < 256
plain w h k = elim (cases_lt k (length w)) [ inl lt ↦ h k lt | inr le ↦ omega (arith, get_or_past w k 0 le) ]

pub returns-clause-any : goal.returns-clause-any
returns-clause-any c = λ bytes h. ends bytes (plain bytes h) 0 [] [] (at_first refl refl refl)

pub returns-clause-further : goal.returns-clause-further
returns-clause-further c = λ bytes p es xs h m. ends bytes (plain bytes h) p es xs m
