-- The references so far are those to the names so far.
use Rattle.std.proofs.Common.{◌≡◌, map, take}
use Rattle.kmip_attribute_set.specs.Tags.{reference_to, said_of}
use Rattle.kmip_attribute_set.proofs.references.references.Given as goal

abbrev pub invariant-loop-name : goal.invariant-loop-name
invariant-loop-name g l = map said_of l.list.list.items ≡ map (λ name. reference_to name.now) (take l.name-index l.names)
