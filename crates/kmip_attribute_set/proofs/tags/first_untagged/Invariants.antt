-- What is left has the same name without a tag, and gets shorter.
use Rattle.std.proofs.Common.{◌≡◌, length}
use Rattle.kmip_attribute_set.specs.Tags.{untagged}
use Rattle.kmip_attribute_set.proofs.tags.first_untagged.Given as goal

abbrev pub invariant-loop-attribute : goal.invariant-loop-attribute
invariant-loop-attribute g l = untagged l.list ≡ untagged l.left

abbrev pub decreases-loop-attribute : goal.decreases-loop-attribute
decreases-loop-attribute g l = length l.left
