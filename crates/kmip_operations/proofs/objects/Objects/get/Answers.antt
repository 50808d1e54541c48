use Rattle.std.proofs.Common.{Some, option_map, string_bytes, ap, sym, ◌∙◌}
use Rattle.std.specs.Vec.{vec_items}
use Rattle.kmip_operations.specs.Answers.{bytes_of_response}
use Rattle.kmip_operations.proofs.objects.Objects.get.Goals as goal

pub returns : goal.returns
returns g c = record {
  id = c.in_ok-id.id;
  object = c.in_ok-id.object.now;
  is_meant = c.in_ok-id.ensures;
  material = ap (option_map vec_items) c.in-Some.is ∙ ap Some (sym c.as_slice.ensures.value) ∙ sym c.in_ok-put.ensures.bytes
      ∙ ap bytes_of_response (sym c.in_ok-new.ensures);
  name_is = ap (λ r. string_bytes r.unique_identifier) c.in_ok-new.ensures ∙ ap string_bytes (c.in_ok-put.ensures.name ∙ c.empty-response.ensures.name)
      ∙ c.in_ok-unique_identifier.ensures;
}
