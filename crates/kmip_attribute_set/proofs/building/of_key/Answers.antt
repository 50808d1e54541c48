use Rattle.std.proofs.Common.{codes, subst, w32}
use Rattle.std.proofs.lemmas.Int.{to_z-of_z}
use Rattle.kmip_attributes.specs.declared.attribute.AttributeValue.TheVariants as values
use Rattle.kmip_attribute_set.specs.Attributes.{IsAttribute}
use Rattle.kmip_attribute_set.proofs.Naming.{four_more, if_ok_map}
use Rattle.kmip_attribute_set.proofs.building.of_key.Goals as goal

pub returns : goal.returns
returns g c = if_ok_map c.with_name.result (λ new h. record {
  algorithm = c.in_ok-one.ensures.attribute;
  length = c.in_ok-two.ensures.attribute;
  usage = c.in_ok-three.ensures.attribute;
  name = h.attribute;
  attributes_are = four_more c.new-none.ensures c.in_ok-one.ensures.list_is c.in_ok-two.ensures.list_is c.in_ok-three.ensures.list_is h.list_is;
  algorithm_is = c.in_ok-one.ensures.is_so;
  length_is = subst (λ z. IsAttribute (codes "Cryptographic Length") (values.Integer z) c.in_ok-two.ensures.attribute)
      (to_z-of_z w32 c.args.length c.ranges.length) c.in_ok-two.ensures.is_so;
  usage_is = subst (λ z. IsAttribute (codes "Cryptographic Usage Mask") (values.Integer z) c.in_ok-three.ensures.attribute)
      (to_z-of_z w32 c.args.usage c.ranges.usage) c.in_ok-three.ensures.is_so;
  name_is = h.is_so;
}) c.with_name.ensures
