use Rattle.kmip_client.proofs.Refusing.{one_item, the_refusal}
use Rattle.kmip_client.proofs.connection.refusal.Goals as goal

pub the_only-item-requires : goal.the_only-item-requires
the_only-item-requires g c = one_item c.args.response.items.items c.requires

pub returns : goal.returns
returns g c = the_refusal c.the_only-item.ensures c.of.ensures
