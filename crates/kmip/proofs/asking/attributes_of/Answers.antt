use Rattle.std.proofs.Common.{subst, to_z, of_z, w32, rules}
use Rattle.std.proofs.lemmas.Int.{to_z-of_z}
use Rattle.kmip_attribute_set.specs.Attributes.{AreOfKey}
use Rattle.kmip.proofs.asking.attributes_of.Goals as goal

pub returns : goal.returns
returns g c = subst (λ z. AreOfKey c.args.key.algorithm z c.args.key.usage c.args.key.name.now c.in_ok-attributes.attributes.list.items)
    (to_z-of_z w32 c.args.length c.ranges.length)
    (subst (λ z. AreOfKey c.args.key.algorithm (to_z w32 (of_z w32 c.args.length)) z c.args.key.name.now c.in_ok-attributes.attributes.list.items)
    (to_z-of_z w32 c.args.key.usage (search rules)) c.in_ok-attributes.ensures)
