use Rattle.std.proofs.Common.{◌≡◌, Ok, Err, refl, subst, w32}
use Rattle.std.proofs.lemmas.Int.{to_z-of_z}
use Rattle.kmip_attribute_set.specs.contracts.tags.AttributesTagged.TheImpl.{IsTagged-value}
use Rattle.kmip_requests.specs.declared.request_payload.RequestPayload.TheVariants as requests
use Rattle.kmip_responses.specs.declared.response_payload.ResponsePayload.TheVariants as responses
use Rattle.kmip_client.specs.Calling.{CallsUnless}
use Rattle.kmip.specs.Commands.{CantHave, IsNewKey}
use Rattle.kmip.proofs.asking.create.Goals as goal

pub returns-in-Ok : goal.returns-in-Ok
returns-in-Ok g c = record {
  outcome = Ok c.in-Ok.made;
  returns = subst (λ z. CallsUnless (g.C.Exchange.Exchanges c.args.client.now.connection c.make.new.client.connection)
      (c.make.new.client.connection ≡ c.args.client.now.connection) c.args.client.now.version 1 requests.Create
      (IsNewKey (IsTagged-value g.row.A g.A.Allocator g.A.Allocator-dict g.A.Clone g.A.Clone-dict).it c.args.client.now.version c.args.key.now z)
      (CantHave (IsTagged-value g.row.A g.A.Allocator g.A.Allocator-dict g.A.Clone g.A.Clone-dict).it c.args.client.now.version c.args.key.now z)
      responses.Create (Ok c.in-Ok.made))
      (to_z-of_z w32 c.args.length c.ranges.length) c.in-Ok.ensures;
  given = refl;
}

pub returns-in-Err : goal.returns-in-Err
returns-in-Err g c = record {
  outcome = Err c.in-Err.failure;
  returns = subst (λ z. CallsUnless (g.C.Exchange.Exchanges c.args.client.now.connection c.make.new.client.connection)
      (c.make.new.client.connection ≡ c.args.client.now.connection) c.args.client.now.version 1 requests.Create
      (IsNewKey (IsTagged-value g.row.A g.A.Allocator g.A.Allocator-dict g.A.Clone g.A.Clone-dict).it c.args.client.now.version c.args.key.now z)
      (CantHave (IsTagged-value g.row.A g.A.Allocator g.A.Allocator-dict g.A.Clone g.A.Clone-dict).it c.args.client.now.version c.args.key.now z)
      responses.Create (Err c.in-Err.failure))
      (to_z-of_z w32 c.args.length c.ranges.length) c.in-Err.ensures;
  given = refl;
}
