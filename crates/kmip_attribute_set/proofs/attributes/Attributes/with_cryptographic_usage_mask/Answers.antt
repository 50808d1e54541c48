use Rattle.std.proofs.Common.{IfOk, codes, subst, w32}
use Rattle.std.proofs.lemmas.Int.{to_z-of_z}
use Rattle.kmip_attributes.specs.declared.attribute.AttributeValue.TheVariants as values
use Rattle.kmip_attribute_set.specs.Attributes.{AreWith, IsAttribute}
use Rattle.kmip_attribute_set.proofs.attributes.Attributes.with_cryptographic_usage_mask.Goals as goal

pub returns : goal.returns
returns g c =
    subst (λ z. IfOk c.with.result (AreWith c.args.self (IsAttribute (codes "Cryptographic Usage Mask") (values.Integer z))))
    (to_z-of_z w32 c.args.mask c.ranges.mask) c.with.ensures
