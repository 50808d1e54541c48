use Rattle.std.proofs.Common.{rules}
use Rattle.kmip_operations.proofs.objects.Objects.wanted.Goals as goal

pub returns : goal.returns
returns g c = record {
  described = c.in_ok-about.ensures;
  anywhere = c.in_ok-check_storage.ensures;
  symmetric = search rules;
  usage = search rules;
}
