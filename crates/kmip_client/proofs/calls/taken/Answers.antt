use Rattle.std.proofs.Common.{Ok, refl}
use Rattle.kmip_attribute_set.specs.contracts.tags.AttributesTagged.TheImpl.{IsOfTags-value}
use Rattle.kmip_client.proofs.Tagging.{taken_by}
use Rattle.kmip_client.proofs.calls.taken.Goals as goal

pub returns-in-Some : goal.returns-in-Some
returns-in-Some g c =
    taken_by (IsOfTags-value g.row.A g.A.Allocator g.A.Allocator-dict g.A.Clone g.A.Clone-dict).it c.args.response.attributes.items c.with_tagged.result
    c.in-Some.is c.with_tagged.ensures

pub returns : goal.returns
returns g c =
    taken_by (IsOfTags-value g.row.A g.A.Allocator g.A.Allocator-dict g.A.Clone g.A.Clone-dict).it c.args.response.attributes.items
    (Ok (record { list = c.args.response.attributes })) c.in-None.is refl
