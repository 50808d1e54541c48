use Rattle.std.proofs.Common.{ap, refl, ◌∙◌}
use Rattle.kmip_operations.specs.Listing.{asked_of, own}
use Rattle.kmip_operations.proofs.Tags.{by_names_so, by_tags_so}
use Rattle.kmip_operations.proofs.objects.Objects.get_attributes.Goals as goal

pub returns-then-not-self : goal.returns-then-not-self
returns-then-not-self g c = record {
  id = c.in_ok-id.id;
  object = c.in_ok-id.object.now;
  is_meant = c.in_ok-id.ensures;
  name_is = c.in_ok-unique_identifier.ensures;
  names = c.args.asked.now.attribute_names.items;
  attributes = record { list = c.in_ok-attributes.attributes };
  attributes_are = c.in_ok-attributes.ensures ∙ ap (λ names. asked_of names (own c.in_ok-id.id c.in_ok-id.object.now)) c.as_slice.ensures.value;
  form = by_names_so _ _ _ c.if-not-self.true record { asks = refl; are = refl; alone = refl };
}

pub returns : goal.returns
returns g c = record {
  id = c.in_ok-id.id;
  object = c.in_ok-id.object.now;
  is_meant = c.in_ok-id.ensures;
  name_is = c.in_ok-unique_identifier.ensures;
  names = c.in_ok-names.names.items;
  attributes = record { list = c.in_ok-list.list };
  attributes_are = c.in_ok-list.ensures ∙ ap (λ names. asked_of names (own c.in_ok-id.id c.in_ok-id.object.now)) c.as_slice-2.ensures.value;
  form = by_tags_so _ _ _ c.if-not-self.false record {
    items = c.in_ok-items.items;
    items_are = refl;
    tagged = c.in_ok-items.ensures;
    alone = c.new.ensures.items;
    unmixed = c.in_ok-names.ensures;
  };
}
