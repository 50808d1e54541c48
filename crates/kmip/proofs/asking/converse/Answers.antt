use Rattle.kmip_attribute_set.specs.contracts.tags.AttributesTagged.TheImpl.{IsOfTags-value, IsTagged-value}
use Rattle.kmip.proofs.Performing.{converses_by}
use Rattle.kmip.proofs.asking.converse.Goals as goal

pub returns-in-Some : goal.returns-in-Some
returns-in-Some g c =
    converses_by (IsTagged-value g.row.A g.A.Allocator g.A.Allocator-dict g.A.Clone g.A.Clone-dict).it
    (IsOfTags-value g.row.A g.A.Allocator g.A.Allocator-dict g.A.Clone g.A.Clone-dict).it
    g.C.Exchange.Exchanges c.args.client.now.connection c.ask.new.client.connection c.args.request.now.asked c.args.key.now c.ask.result
    c.in-Some.is c.ask.ensures

pub returns-in-None : goal.returns-in-None
returns-in-None g c =
    converses_by (IsTagged-value g.row.A g.A.Allocator g.A.Allocator-dict g.A.Clone g.A.Clone-dict).it
    (IsOfTags-value g.row.A g.A.Allocator g.A.Allocator-dict g.A.Clone g.A.Clone-dict).it
    g.C.Exchange.Exchanges c.args.client.now.connection c.ask_in_best.new.client.connection c.args.request.now.asked c.args.key.now c.ask_in_best.result
    c.in-None.is c.ask_in_best.ensures
