use Rattle.std.proofs.Common.{ap, map, string_bytes, ◌∙◌}
use Rattle.kmip_operations.specs.Listing.{saying_of}
use Rattle.kmip_operations.specs.Showing.{names_of}
use Rattle.kmip_operations.proofs.Tags.{by_names_so, by_tags_so, refers_to}
use Rattle.kmip_operations.proofs.objects.Objects.get_attribute_list.Goals as goal

pub returns-then-not-self : goal.returns-then-not-self
returns-then-not-self g c = record {
  id = c.in_ok-id.id;
  object = c.in_ok-id.object.now;
  is_meant = c.in_ok-id.ensures;
  name_is = c.in_ok-unique_identifier.ensures;
  form = by_names_so _ _ _ c.if-not-self.true
      (c.in_ok-attribute_names.ensures ∙ ap (λ l. names_of (map saying_of l)) c.as_slice.ensures.value ∙ ap names_of c.in_ok-attributes.ensures);
}

pub returns : goal.returns
returns g c =
    let names = c.in_ok-attribute_names.ensures ∙ ap (λ l. names_of (map saying_of l)) c.as_slice.ensures.value ∙ ap names_of c.in_ok-attributes.ensures in
    record {
      id = c.in_ok-id.id;
      object = c.in_ok-id.object.now;
      is_meant = c.in_ok-id.ensures;
      name_is = c.in_ok-unique_identifier.ensures;
      form = by_tags_so _ _ _ c.if-not-self.false
          (c.new.ensures.items, refers_to _ _ _ _ (ap (map string_bytes) c.as_slice-2.ensures.value ∙ names) c.in_ok-other_items.ensures);
    }
