use Rattle.std.proofs.Common.{refl}
use Rattle.kmip_client.proofs.payloads.locate_by.Goals as goal

pub returns : goal.returns
returns g c = record {
  by_name = c.named.ensures;
  by_tag = c.in_ok-attributes_by_tag.ensures;
  most = refl;
  offset = refl;
  storage = refl;
  member = refl;
  others = c.none.ensures;
}
