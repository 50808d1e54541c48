use Rattle.std.proofs.Common.{◌+◌, ap, map, refl, ◌∙◌}
use Rattle.std.specs.Fmt.{decimal}
use Rattle.kmip_operations.specs.Finding.{at_most, behind, sole}
use Rattle.kmip_operations.proofs.objects.Objects.locate.Goals as goal

pub returns : goal.returns
returns g c = record {
  same = refl;
  all = c.in_ok-all.all.items;
  found = c.in_ok-all.ensures;
  kept = c.stored-found.result.items;
  kept_are = c.stored-found.ensures;
  names_are = c.in_ok-unique_identifiers.ensures ∙ ap (map (λ id. decimal (id + 1))) (c.at_most-page.ensures
      ∙ ap (at_most c.args.asked.now.maximum_items) (c.behind-rest.ensures ∙ ap (behind c.args.asked.now.offset_items) c.as_slice.ensures.value));
  last = c.sole-self.ensures ∙ ap sole c.as_slice-2.ensures.value;
}
