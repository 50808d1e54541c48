use Rattle.std.proofs.Common.{subst}
use Rattle.kmip_operations.specs.Known.{KnowsAll}
use Rattle.kmip_operations.proofs.Knowing.{templated_still}
use Rattle.kmip_operations.proofs.objects.Objects.describe.Goals as goal

pub returns : goal.returns
returns g c = record {
  templated = templated_still c.args.template.now c.in_ok-attributes.ensures.grows c.in_ok-about.ensures;
  given = c.in_ok-given.given;
  are_given = c.in_ok-given.ensures;
  known = subst (λ l. KnowsAll l c.attributes.new.self) c.as_slice.ensures.value c.in_ok-attributes.ensures.known;
}
