-- The attributes so far are known, and nothing that was is forgotten.
use Rattle.std.proofs.Common.{take}
use Rattle.kmip_operations.specs.Known.{Grows, KnowsAll}
use Rattle.kmip_operations.proofs.about.About.attributes.Given as goal

abbrev pub invariant-loop-attribute : goal.invariant-loop-attribute
invariant-loop-attribute g l = KnowsAll (take l.attribute-index l.attributes) l.self × Grows l.initial.self l.self
