use Rattle.std.proofs.Common.{refl}
use Rattle.kmip_client.proofs.payloads.create.Goals as goal

pub returns : goal.returns
returns g c = record { symmetric = refl; template = c.template.ensures; by_tag = c.in_ok-attributes_by_tag.ensures; storage = refl }
