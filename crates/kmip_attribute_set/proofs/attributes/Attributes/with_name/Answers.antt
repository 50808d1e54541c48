use Rattle.std.proofs.Common.{refl}
use Rattle.kmip_attribute_set.proofs.Naming.{if_ok_map}
use Rattle.kmip_attribute_set.proofs.attributes.Attributes.with_name.Goals as goal

pub returns : goal.returns
returns g c = if_ok_map c.with.result (λ new h. record {
  attribute = h.attribute;
  is_so = record {
    name = record { value = c.in_ok-value.value; name_type = record { number = 1 } };
    attribute_is = h.is_so;
    text_is = c.in_ok-value.ensures.ok;
    uninterpreted = refl;
  };
  list_is = h.list_is;
}) c.with.ensures
