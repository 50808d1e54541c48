use Rattle.kmip_attribute_set.specs.contracts.tags.AttributesTagged.TheImpl.{IsOfTags-value, IsTagged-value}
use Rattle.kmip.proofs.Performing.{performs_in}
use Rattle.kmip.proofs.asking.ask_in_best.Goals as goal

pub returns-in-Ok : goal.returns-in-Ok
returns-in-Ok g c = record {
  middle = c.negotiate.new.self.connection;
  outcome = c.negotiate.result;
  negotiated = c.negotiate.ensures.negotiates;
  performs = performs_in (IsTagged-value g.row.A g.A.Allocator g.A.Allocator-dict g.A.Clone g.A.Clone-dict).it
      (IsOfTags-value g.row.A g.A.Allocator g.A.Allocator-dict g.A.Clone g.A.Clone-dict).it
      g.C.Exchange.Exchanges c.negotiate.new.self.connection c.ask.new.client.connection c.args.asked.now c.args.key.now c.ask.result c.in-Ok.is
      c.in-Ok.ensures.speaks c.ask.ensures;
}
