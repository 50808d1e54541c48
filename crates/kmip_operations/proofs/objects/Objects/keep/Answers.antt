use Rattle.std.proofs.Common.{◌+◌, ap, refl, sym, ◌∙◌}
use Rattle.std.specs.Fmt.{decimal}
use Rattle.kmip_operations.proofs.objects.Objects.keep.Goals as goal

pub returns : goal.returns
returns g c = record {
  object = _;
  about_is = refl;
  material = refl;
  id = c.in_ok-id.id;
  comes = c.in_ok-id.ensures.comes;
  name_is = c.in_ok-unique_identifier.ensures ∙ ap (λ n. decimal (n + 1)) (c.count.ensures ∙ sym c.in_ok-id.ensures.next);
  last = refl;
}
