use Rattle.kmip_attribute_set.specs.contracts.tags.AttributesTagged.TheImpl.{IsOfTags-value}
use Rattle.kmip_operations.proofs.Tags.{given_none, given_some}
use Rattle.kmip_operations.proofs.objects.Objects.given.Goals as goal

pub returns-in-None : goal.returns-in-None
returns-in-None g c =
    let tags = IsOfTags-value g.row.A g.A.Allocator g.A.Allocator-dict g.A.Clone g.A.Clone-dict in
    given_none tags.it c.args.self.now.by_tags c.args.items.now c.new.result c.in-None.is c.new.ensures

pub returns-in-Ok : goal.returns-in-Ok
returns-in-Ok g c =
    let tags = IsOfTags-value g.row.A g.A.Allocator g.A.Allocator-dict g.A.Clone g.A.Clone-dict in
    given_some tags.it c.args.self.now.by_tags c.args.items.now c.in-Some-2.items c.in-Ok.given c.in-Some-2.is c.if-not-self.false c.in-Ok.ensures
