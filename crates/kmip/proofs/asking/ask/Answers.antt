use Rattle.std.proofs.Common.{◌≡◌, ◌∙◌, None, Some, ap, map, subst, w32, rules}
use Rattle.std.proofs.lemmas.Int.{to_z-of_z}
use Rattle.kmip_attribute_set.specs.contracts.tags.AttributesTagged.TheImpl.{IsOfTags-value, IsTagged-value}
use Rattle.kmip_requests.specs.declared.request_payload.RequestPayload.TheVariants as requests
use Rattle.kmip_responses.specs.declared.response_payload.ResponsePayload.TheVariants as responses
use Rattle.kmip_client.specs.Calling.{CallsUnless}
use Rattle.kmip_client.specs.Payloads.{CantRefer, GetsAttributes, IsGetAttributes}
use Rattle.kmip.specs.declared.done.Done.TheVariants as dones
use Rattle.kmip.specs.declared.request.Asked.TheVariants as commands
use Rattle.kmip.specs.Commands.{CantHave, Gives, IsNewKey}
use Rattle.kmip.proofs.Performing.{performs_by}
use Rattle.kmip.proofs.asking.ask.Goals as goal

pub returns-in-Query : goal.returns-in-Query
returns-in-Query g c =
    performs_by (IsTagged-value g.row.A g.A.Allocator g.A.Allocator-dict g.A.Clone g.A.Clone-dict).it
    (IsOfTags-value g.row.A g.A.Allocator g.A.Allocator-dict g.A.Clone g.A.Clone-dict).it
    (g.C.Exchange.Exchanges c.args.client.now.connection c.query.new.client.connection) (c.query.new.client.connection ≡ c.args.client.now.connection)
    c.args.client.now.version c.args.key.now c.query.result c.in-Query.is c.query.ensures

pub returns-in-Versions : goal.returns-in-Versions
returns-in-Versions g c =
    performs_by (IsTagged-value g.row.A g.A.Allocator g.A.Allocator-dict g.A.Clone g.A.Clone-dict).it
    (IsOfTags-value g.row.A g.A.Allocator g.A.Allocator-dict g.A.Clone g.A.Clone-dict).it
    (g.C.Exchange.Exchanges c.args.client.now.connection c.versions.new.client.connection) (c.versions.new.client.connection ≡ c.args.client.now.connection)
    c.args.client.now.version c.args.key.now c.versions.result c.in-Versions.is c.versions.ensures

pub returns-in-Create : goal.returns-in-Create
returns-in-Create g c =
    let v = c.args.client.now.version in
    let key = c.in-Create.key in
    performs_by (IsTagged-value g.row.A g.A.Allocator g.A.Allocator-dict g.A.Clone g.A.Clone-dict).it
    (IsOfTags-value g.row.A g.A.Allocator g.A.Allocator-dict g.A.Clone g.A.Clone-dict).it
    (g.C.Exchange.Exchanges c.args.client.now.connection c.create.new.client.connection) (c.create.new.client.connection ≡ c.args.client.now.connection)
    v c.args.key.now c.create.result c.in-Create.is
    (subst (λ z. Gives (CallsUnless (g.C.Exchange.Exchanges c.args.client.now.connection c.create.new.client.connection)
    (c.create.new.client.connection ≡ c.args.client.now.connection) v 1
    requests.Create (IsNewKey (IsTagged-value g.row.A g.A.Allocator g.A.Allocator-dict g.A.Clone g.A.Clone-dict).it v key z)
    (CantHave (IsTagged-value g.row.A g.A.Allocator g.A.Allocator-dict g.A.Clone g.A.Clone-dict).it v key z) responses.Create) dones.Create c.create.result)
    (to_z-of_z w32 c.in-Create.length (search rules)) c.create.ensures)

pub returns-in-Register : goal.returns-in-Register
returns-in-Register g c =
    performs_by (IsTagged-value g.row.A g.A.Allocator g.A.Allocator-dict g.A.Clone g.A.Clone-dict).it
    (IsOfTags-value g.row.A g.A.Allocator g.A.Allocator-dict g.A.Clone g.A.Clone-dict).it
    (g.C.Exchange.Exchanges c.args.client.now.connection c.register.new.client.connection) (c.register.new.client.connection ≡ c.args.client.now.connection)
    c.args.client.now.version c.args.key.now c.register.result c.in-Register.is c.register.ensures

pub returns-in-Get : goal.returns-in-Get
returns-in-Get g c =
    performs_by (IsTagged-value g.row.A g.A.Allocator g.A.Allocator-dict g.A.Clone g.A.Clone-dict).it
    (IsOfTags-value g.row.A g.A.Allocator g.A.Allocator-dict g.A.Clone g.A.Clone-dict).it
    (g.C.Exchange.Exchanges c.args.client.now.connection c.get.new.client.connection) (c.get.new.client.connection ≡ c.args.client.now.connection)
    c.args.client.now.version c.args.key.now c.get.result c.in-Get.is c.get.ensures

pub returns-in-Activate : goal.returns-in-Activate
returns-in-Activate g c =
    performs_by (IsTagged-value g.row.A g.A.Allocator g.A.Allocator-dict g.A.Clone g.A.Clone-dict).it
    (IsOfTags-value g.row.A g.A.Allocator g.A.Allocator-dict g.A.Clone g.A.Clone-dict).it
    (g.C.Exchange.Exchanges c.args.client.now.connection c.activate.new.client.connection) (c.activate.new.client.connection ≡ c.args.client.now.connection)
    c.args.client.now.version c.args.key.now c.activate.result c.in-Activate.is c.activate.ensures

pub returns-in-Revoke : goal.returns-in-Revoke
returns-in-Revoke g c =
    performs_by (IsTagged-value g.row.A g.A.Allocator g.A.Allocator-dict g.A.Clone g.A.Clone-dict).it
    (IsOfTags-value g.row.A g.A.Allocator g.A.Allocator-dict g.A.Clone g.A.Clone-dict).it
    (g.C.Exchange.Exchanges c.args.client.now.connection c.revoke.new.client.connection) (c.revoke.new.client.connection ≡ c.args.client.now.connection)
    c.args.client.now.version c.args.key.now c.revoke.result c.in-Revoke.is c.revoke.ensures

pub returns-in-Destroy : goal.returns-in-Destroy
returns-in-Destroy g c =
    performs_by (IsTagged-value g.row.A g.A.Allocator g.A.Allocator-dict g.A.Clone g.A.Clone-dict).it
    (IsOfTags-value g.row.A g.A.Allocator g.A.Allocator-dict g.A.Clone g.A.Clone-dict).it
    (g.C.Exchange.Exchanges c.args.client.now.connection c.destroy.new.client.connection) (c.destroy.new.client.connection ≡ c.args.client.now.connection)
    c.args.client.now.version c.args.key.now c.destroy.result c.in-Destroy.is c.destroy.ensures

pub returns-in-Some : goal.returns-in-Some
returns-in-Some g c =
    let e : c.args.asked.now ≡ commands.Locate (Some c.in-Some.name) = c.in-Locate.is ∙ ap commands.Locate c.in-Some.is in
    performs_by (IsTagged-value g.row.A g.A.Allocator g.A.Allocator-dict g.A.Clone g.A.Clone-dict).it
    (IsOfTags-value g.row.A g.A.Allocator g.A.Allocator-dict g.A.Clone g.A.Clone-dict).it
    (g.C.Exchange.Exchanges c.args.client.now.connection c.locate.new.client.connection) (c.locate.new.client.connection ≡ c.args.client.now.connection)
    c.args.client.now.version c.args.key.now c.locate.result e c.locate.ensures

pub returns-in-None : goal.returns-in-None
returns-in-None g c =
    let e : c.args.asked.now ≡ commands.Locate None = c.in-Locate.is ∙ ap commands.Locate c.in-None.is in
    performs_by (IsTagged-value g.row.A g.A.Allocator g.A.Allocator-dict g.A.Clone g.A.Clone-dict).it
    (IsOfTags-value g.row.A g.A.Allocator g.A.Allocator-dict g.A.Clone g.A.Clone-dict).it
    (g.C.Exchange.Exchanges c.args.client.now.connection c.locate_every.new.client.connection)
    (c.locate_every.new.client.connection ≡ c.args.client.now.connection)
    c.args.client.now.version c.args.key.now c.locate_every.result e c.locate_every.ensures

pub returns-in-Attributes : goal.returns-in-Attributes
returns-in-Attributes g c =
    let v = c.args.client.now.version in
    let h : Gives (GetsAttributes (IsOfTags-value g.row.A g.A.Allocator g.A.Allocator-dict g.A.Clone g.A.Clone-dict).it
    (CallsUnless (g.C.Exchange.Exchanges c.args.client.now.connection c.attributes.new.client.connection)
    (c.attributes.new.client.connection ≡ c.args.client.now.connection) v 11
    requests.GetAttributes (IsGetAttributes (IsTagged-value g.row.A g.A.Allocator g.A.Allocator-dict g.A.Clone g.A.Clone-dict).it v
    c.in-Attributes.identifier.now (map (λ t. t.now) c.in-Attributes.names.items)) (CantRefer v)
    responses.GetAttributes)) dones.Attributes c.attributes.result =
    subst (λ l. Gives (GetsAttributes (IsOfTags-value g.row.A g.A.Allocator g.A.Allocator-dict g.A.Clone g.A.Clone-dict).it
    (CallsUnless (g.C.Exchange.Exchanges c.args.client.now.connection c.attributes.new.client.connection)
    (c.attributes.new.client.connection ≡ c.args.client.now.connection) v 11
    requests.GetAttributes (IsGetAttributes (IsTagged-value g.row.A g.A.Allocator g.A.Allocator-dict g.A.Clone g.A.Clone-dict).it v
    c.in-Attributes.identifier.now (map (λ t. t.now) l)) (CantRefer v)
    responses.GetAttributes)) dones.Attributes c.attributes.result) c.as_slice.ensures.value c.attributes.ensures in
    performs_by (IsTagged-value g.row.A g.A.Allocator g.A.Allocator-dict g.A.Clone g.A.Clone-dict).it
    (IsOfTags-value g.row.A g.A.Allocator g.A.Allocator-dict g.A.Clone g.A.Clone-dict).it
    (g.C.Exchange.Exchanges c.args.client.now.connection c.attributes.new.client.connection) (c.attributes.new.client.connection ≡ c.args.client.now.connection)
    c.args.client.now.version c.args.key.now c.attributes.result c.in-Attributes.is h
