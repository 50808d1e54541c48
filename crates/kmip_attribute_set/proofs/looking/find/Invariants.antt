-- What is left has the same value, and gets shorter.
use Rattle.std.proofs.Common.{◌≡◌, length}
use Rattle.kmip_attribute_set.specs.Attributes.{value_of}
use Rattle.kmip_attribute_set.proofs.looking.find.Given as goal

abbrev pub invariant-loop-attribute : goal.invariant-loop-attribute
invariant-loop-attribute g l = value_of l.name l.attributes ≡ value_of l.name l.left

abbrev pub decreases-loop-attribute : goal.decreases-loop-attribute
decreases-loop-attribute g l = length l.left
