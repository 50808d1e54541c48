use Rattle.std.proofs.Common.{Err, refl}
use Rattle.kmip_attribute_set.specs.contracts.tags.AttributesTagged.TheImpl.{IsOfTags-value, IsTagged-value, no_dict}
use Rattle.kmip_requests.specs.declared.request_payload.RequestPayload.TheVariants as requests
use Rattle.kmip_memory_server.proofs.Handling.{activates_as, destroys_as, handles_as, handles_other, registers_as, revokes_as}
use Rattle.kmip_memory_server.proofs.server.ServerHandler.handle.Goals as goal

pub returns-in-Create : goal.returns-in-Create
returns-in-Create g c =
    handles_as (IsTagged-value g.row.A g.A.Allocator no_dict g.A.Clone no_dict).it (IsOfTags-value g.row.A g.A.Allocator no_dict g.A.Clone no_dict).it
    c.args.self.now.objects c.args.asked.now c.create.result c.create.new.self.objects (requests.Create c.in-Create.asked) c.in-Create.is c.create.ensures

pub returns-in-Register : goal.returns-in-Register
returns-in-Register g c =
    registers_as (IsTagged-value g.row.A g.A.Allocator no_dict g.A.Clone no_dict).it (IsOfTags-value g.row.A g.A.Allocator no_dict g.A.Clone no_dict).it
    c.args.self.now.objects c.args.asked.now c.register.result c.register.new.self.objects c.in-Register.asked _ c.in-Register.is c.deref.ensures
    c.register.ensures

pub returns-in-Locate : goal.returns-in-Locate
returns-in-Locate g c =
    handles_as (IsTagged-value g.row.A g.A.Allocator no_dict g.A.Clone no_dict).it (IsOfTags-value g.row.A g.A.Allocator no_dict g.A.Clone no_dict).it
    c.args.self.now.objects c.args.asked.now c.locate.result c.locate.new.self (requests.Locate c.in-Locate.asked) c.in-Locate.is c.locate.ensures

pub returns-in-Get : goal.returns-in-Get
returns-in-Get g c =
    handles_as (IsTagged-value g.row.A g.A.Allocator no_dict g.A.Clone no_dict).it (IsOfTags-value g.row.A g.A.Allocator no_dict g.A.Clone no_dict).it
    c.args.self.now.objects c.args.asked.now c.get.result c.args.self.now.objects (requests.Get c.in-Get.asked) c.in-Get.is (c.get.ensures, refl)

pub returns-in-GetAttributes : goal.returns-in-GetAttributes
returns-in-GetAttributes g c =
    handles_as (IsTagged-value g.row.A g.A.Allocator no_dict g.A.Clone no_dict).it (IsOfTags-value g.row.A g.A.Allocator no_dict g.A.Clone no_dict).it
    c.args.self.now.objects c.args.asked.now c.get_attributes.result c.args.self.now.objects (requests.GetAttributes c.in-GetAttributes.asked)
    c.in-GetAttributes.is (c.get_attributes.ensures, refl)

pub returns-in-GetAttributeList : goal.returns-in-GetAttributeList
returns-in-GetAttributeList g c =
    handles_as (IsTagged-value g.row.A g.A.Allocator no_dict g.A.Clone no_dict).it (IsOfTags-value g.row.A g.A.Allocator no_dict g.A.Clone no_dict).it
    c.args.self.now.objects c.args.asked.now c.get_attribute_list.result c.args.self.now.objects (requests.GetAttributeList c.in-GetAttributeList.asked)
    c.in-GetAttributeList.is (c.get_attribute_list.ensures, refl)

pub returns-in-Activate : goal.returns-in-Activate
returns-in-Activate g c =
    activates_as (IsTagged-value g.row.A g.A.Allocator no_dict g.A.Clone no_dict).it (IsOfTags-value g.row.A g.A.Allocator no_dict g.A.Clone no_dict).it
    c.args.self.now.objects c.args.asked.now c.activate.result c.activate.new.self c.in-Activate.asked _ c.in-Activate.is c.activate.ensures

pub returns-in-Revoke : goal.returns-in-Revoke
returns-in-Revoke g c =
    revokes_as (IsTagged-value g.row.A g.A.Allocator no_dict g.A.Clone no_dict).it (IsOfTags-value g.row.A g.A.Allocator no_dict g.A.Clone no_dict).it
    c.args.self.now.objects c.args.asked.now c.revoke.result c.revoke.new.self c.in-Revoke.asked _ c.in-Revoke.is c.revoke.ensures

pub returns-in-Destroy : goal.returns-in-Destroy
returns-in-Destroy g c =
    destroys_as (IsTagged-value g.row.A g.A.Allocator no_dict g.A.Clone no_dict).it (IsOfTags-value g.row.A g.A.Allocator no_dict g.A.Clone no_dict).it
    c.args.self.now.objects c.args.asked.now c.destroy.result c.destroy.new.self c.in-Destroy.asked _ c.in-Destroy.is c.destroy.ensures

pub returns-in_default : goal.returns-in_default
returns-in_default g c =
    handles_other (IsTagged-value g.row.A g.A.Allocator no_dict g.A.Clone no_dict).it (IsOfTags-value g.row.A g.A.Allocator no_dict g.A.Clone no_dict).it
    c.args.self.now.objects c.args.asked.now (Err c.new.result)
    c.in_default.not-Create c.in_default.not-Register c.in_default.not-Locate c.in_default.not-Get c.in_default.not-GetAttributes
    c.in_default.not-GetAttributeList c.in_default.not-Activate c.in_default.not-Revoke c.in_default.not-Destroy
