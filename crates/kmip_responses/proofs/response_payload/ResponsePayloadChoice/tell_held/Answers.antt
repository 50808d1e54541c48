-- Written by codegen from types.table: change that, and run codegen/codegen.
-- What it answers, by what it holds.
use Rattle.std.specs.Prelude.{OnOk}
use Rattle.kmip_ttlv_kinds.specs.Choices.{told_as}
use Rattle.kmip_responses.specs.Choices.{response_payload_by}
use Rattle.kmip_responses.proofs.response_payload.ResponsePayloadChoice.tell_held.Goals as goal

pub returns-in-Create-clause-told : goal.returns-in-Create-clause-told
unfolding response_payload_by
returns-in-Create-clause-told g c = told_as (response_payload_by _) (λ t. OnOk c.item.result (g.W.Walk.steps.Takes c.args.state.now t c.item.new.state)) c.in-Create.is c.item.ensures.told

pub returns-in-CreateKeyPair-clause-told : goal.returns-in-CreateKeyPair-clause-told
unfolding response_payload_by
returns-in-CreateKeyPair-clause-told g c = told_as (response_payload_by _) (λ t. OnOk c.item-in-CreateKeyPair.result (g.W.Walk.steps.Takes c.args.state.now t c.item-in-CreateKeyPair.new.state)) c.in-CreateKeyPair.is c.item-in-CreateKeyPair.ensures.told

pub returns-in-Register-clause-told : goal.returns-in-Register-clause-told
unfolding response_payload_by
returns-in-Register-clause-told g c = told_as (response_payload_by _) (λ t. OnOk c.item-in-Register.result (g.W.Walk.steps.Takes c.args.state.now t c.item-in-Register.new.state)) c.in-Register.is c.item-in-Register.ensures.told

pub returns-in-ReKey-clause-told : goal.returns-in-ReKey-clause-told
unfolding response_payload_by
returns-in-ReKey-clause-told g c = told_as (response_payload_by _) (λ t. OnOk c.item-in-ReKey.result (g.W.Walk.steps.Takes c.args.state.now t c.item-in-ReKey.new.state)) c.in-ReKey.is c.item-in-ReKey.ensures.told

pub returns-in-DeriveKey-clause-told : goal.returns-in-DeriveKey-clause-told
unfolding response_payload_by
returns-in-DeriveKey-clause-told g c = told_as (response_payload_by _) (λ t. OnOk c.item-in-DeriveKey.result (g.W.Walk.steps.Takes c.args.state.now t c.item-in-DeriveKey.new.state)) c.in-DeriveKey.is c.item-in-DeriveKey.ensures.told

pub returns-in-Locate-clause-told : goal.returns-in-Locate-clause-told
unfolding response_payload_by
returns-in-Locate-clause-told g c = told_as (response_payload_by _) (λ t. OnOk c.item-in-Locate.result (g.W.Walk.steps.Takes c.args.state.now t c.item-in-Locate.new.state)) c.in-Locate.is c.item-in-Locate.ensures.told

pub returns-in-Check-clause-told : goal.returns-in-Check-clause-told
unfolding response_payload_by
returns-in-Check-clause-told g c = told_as (response_payload_by _) (λ t. OnOk c.item-in-Check.result (g.W.Walk.steps.Takes c.args.state.now t c.item-in-Check.new.state)) c.in-Check.is c.item-in-Check.ensures.told

pub returns-in-Get-clause-told : goal.returns-in-Get-clause-told
unfolding response_payload_by
returns-in-Get-clause-told g c = told_as (response_payload_by _) (λ t. OnOk c.item-in-Get.result (g.W.Walk.steps.Takes c.args.state.now t c.item-in-Get.new.state)) c.in-Get.is c.item-in-Get.ensures.told

pub returns-in-GetAttributes-clause-told : goal.returns-in-GetAttributes-clause-told
unfolding response_payload_by
returns-in-GetAttributes-clause-told g c = told_as (response_payload_by _) (λ t. OnOk c.item-in-GetAttributes.result (g.W.Walk.steps.Takes c.args.state.now t c.item-in-GetAttributes.new.state)) c.in-GetAttributes.is c.item-in-GetAttributes.ensures.told

pub returns-in-GetAttributeList-clause-told : goal.returns-in-GetAttributeList-clause-told
unfolding response_payload_by
returns-in-GetAttributeList-clause-told g c = told_as (response_payload_by _) (λ t. OnOk c.item-in-GetAttributeList.result (g.W.Walk.steps.Takes c.args.state.now t c.item-in-GetAttributeList.new.state)) c.in-GetAttributeList.is c.item-in-GetAttributeList.ensures.told

pub returns-in-AddAttribute-clause-told : goal.returns-in-AddAttribute-clause-told
unfolding response_payload_by
returns-in-AddAttribute-clause-told g c = told_as (response_payload_by _) (λ t. OnOk c.item-in-AddAttribute.result (g.W.Walk.steps.Takes c.args.state.now t c.item-in-AddAttribute.new.state)) c.in-AddAttribute.is c.item-in-AddAttribute.ensures.told

pub returns-in-ModifyAttribute-clause-told : goal.returns-in-ModifyAttribute-clause-told
unfolding response_payload_by
returns-in-ModifyAttribute-clause-told g c = told_as (response_payload_by _) (λ t. OnOk c.item-in-ModifyAttribute.result (g.W.Walk.steps.Takes c.args.state.now t c.item-in-ModifyAttribute.new.state)) c.in-ModifyAttribute.is c.item-in-ModifyAttribute.ensures.told

pub returns-in-DeleteAttribute-clause-told : goal.returns-in-DeleteAttribute-clause-told
unfolding response_payload_by
returns-in-DeleteAttribute-clause-told g c = told_as (response_payload_by _) (λ t. OnOk c.item-in-DeleteAttribute.result (g.W.Walk.steps.Takes c.args.state.now t c.item-in-DeleteAttribute.new.state)) c.in-DeleteAttribute.is c.item-in-DeleteAttribute.ensures.told

pub returns-in-ObtainLease-clause-told : goal.returns-in-ObtainLease-clause-told
unfolding response_payload_by
returns-in-ObtainLease-clause-told g c = told_as (response_payload_by _) (λ t. OnOk c.item-in-ObtainLease.result (g.W.Walk.steps.Takes c.args.state.now t c.item-in-ObtainLease.new.state)) c.in-ObtainLease.is c.item-in-ObtainLease.ensures.told

pub returns-in-GetUsageAllocation-clause-told : goal.returns-in-GetUsageAllocation-clause-told
unfolding response_payload_by
returns-in-GetUsageAllocation-clause-told g c = told_as (response_payload_by _) (λ t. OnOk c.item-in-GetUsageAllocation.result (g.W.Walk.steps.Takes c.args.state.now t c.item-in-GetUsageAllocation.new.state)) c.in-GetUsageAllocation.is c.item-in-GetUsageAllocation.ensures.told

pub returns-in-Activate-clause-told : goal.returns-in-Activate-clause-told
unfolding response_payload_by
returns-in-Activate-clause-told g c = told_as (response_payload_by _) (λ t. OnOk c.item-in-Activate.result (g.W.Walk.steps.Takes c.args.state.now t c.item-in-Activate.new.state)) c.in-Activate.is c.item-in-Activate.ensures.told

pub returns-in-Revoke-clause-told : goal.returns-in-Revoke-clause-told
unfolding response_payload_by
returns-in-Revoke-clause-told g c = told_as (response_payload_by _) (λ t. OnOk c.item-in-Revoke.result (g.W.Walk.steps.Takes c.args.state.now t c.item-in-Revoke.new.state)) c.in-Revoke.is c.item-in-Revoke.ensures.told

pub returns-in-Destroy-clause-told : goal.returns-in-Destroy-clause-told
unfolding response_payload_by
returns-in-Destroy-clause-told g c = told_as (response_payload_by _) (λ t. OnOk c.item-in-Destroy.result (g.W.Walk.steps.Takes c.args.state.now t c.item-in-Destroy.new.state)) c.in-Destroy.is c.item-in-Destroy.ensures.told

pub returns-in-Archive-clause-told : goal.returns-in-Archive-clause-told
unfolding response_payload_by
returns-in-Archive-clause-told g c = told_as (response_payload_by _) (λ t. OnOk c.item-in-Archive.result (g.W.Walk.steps.Takes c.args.state.now t c.item-in-Archive.new.state)) c.in-Archive.is c.item-in-Archive.ensures.told

pub returns-in-Recover-clause-told : goal.returns-in-Recover-clause-told
unfolding response_payload_by
returns-in-Recover-clause-told g c = told_as (response_payload_by _) (λ t. OnOk c.item-in-Recover.result (g.W.Walk.steps.Takes c.args.state.now t c.item-in-Recover.new.state)) c.in-Recover.is c.item-in-Recover.ensures.told

pub returns-in-Query-clause-told : goal.returns-in-Query-clause-told
unfolding response_payload_by
returns-in-Query-clause-told g c = told_as (response_payload_by _) (λ t. OnOk c.item-in-Query.result (g.W.Walk.steps.Takes c.args.state.now t c.item-in-Query.new.state)) c.in-Query.is c.item-in-Query.ensures.told

pub returns-in-Cancel-clause-told : goal.returns-in-Cancel-clause-told
unfolding response_payload_by
returns-in-Cancel-clause-told g c = told_as (response_payload_by _) (λ t. OnOk c.item-in-Cancel.result (g.W.Walk.steps.Takes c.args.state.now t c.item-in-Cancel.new.state)) c.in-Cancel.is c.item-in-Cancel.ensures.told

pub returns-in-ReKeyKeyPair-clause-told : goal.returns-in-ReKeyKeyPair-clause-told
unfolding response_payload_by
returns-in-ReKeyKeyPair-clause-told g c = told_as (response_payload_by _) (λ t. OnOk c.item-in-ReKeyKeyPair.result (g.W.Walk.steps.Takes c.args.state.now t c.item-in-ReKeyKeyPair.new.state)) c.in-ReKeyKeyPair.is c.item-in-ReKeyKeyPair.ensures.told

pub returns-in-DiscoverVersions-clause-told : goal.returns-in-DiscoverVersions-clause-told
unfolding response_payload_by
returns-in-DiscoverVersions-clause-told g c = told_as (response_payload_by _) (λ t. OnOk c.item-in-DiscoverVersions.result (g.W.Walk.steps.Takes c.args.state.now t c.item-in-DiscoverVersions.new.state)) c.in-DiscoverVersions.is c.item-in-DiscoverVersions.ensures.told

pub returns-in-Encrypt-clause-told : goal.returns-in-Encrypt-clause-told
unfolding response_payload_by
returns-in-Encrypt-clause-told g c = told_as (response_payload_by _) (λ t. OnOk c.item-in-Encrypt.result (g.W.Walk.steps.Takes c.args.state.now t c.item-in-Encrypt.new.state)) c.in-Encrypt.is c.item-in-Encrypt.ensures.told

pub returns-in-Decrypt-clause-told : goal.returns-in-Decrypt-clause-told
unfolding response_payload_by
returns-in-Decrypt-clause-told g c = told_as (response_payload_by _) (λ t. OnOk c.item-in-Decrypt.result (g.W.Walk.steps.Takes c.args.state.now t c.item-in-Decrypt.new.state)) c.in-Decrypt.is c.item-in-Decrypt.ensures.told

pub returns-in-Sign-clause-told : goal.returns-in-Sign-clause-told
unfolding response_payload_by
returns-in-Sign-clause-told g c = told_as (response_payload_by _) (λ t. OnOk c.item-in-Sign.result (g.W.Walk.steps.Takes c.args.state.now t c.item-in-Sign.new.state)) c.in-Sign.is c.item-in-Sign.ensures.told

pub returns-in-SignatureVerify-clause-told : goal.returns-in-SignatureVerify-clause-told
unfolding response_payload_by
returns-in-SignatureVerify-clause-told g c = told_as (response_payload_by _) (λ t. OnOk c.item-in-SignatureVerify.result (g.W.Walk.steps.Takes c.args.state.now t c.item-in-SignatureVerify.new.state)) c.in-SignatureVerify.is c.item-in-SignatureVerify.ensures.told

pub returns-in-Mac-clause-told : goal.returns-in-Mac-clause-told
unfolding response_payload_by
returns-in-Mac-clause-told g c = told_as (response_payload_by _) (λ t. OnOk c.item-in-Mac.result (g.W.Walk.steps.Takes c.args.state.now t c.item-in-Mac.new.state)) c.in-Mac.is c.item-in-Mac.ensures.told

pub returns-in-MacVerify-clause-told : goal.returns-in-MacVerify-clause-told
unfolding response_payload_by
returns-in-MacVerify-clause-told g c = told_as (response_payload_by _) (λ t. OnOk c.item-in-MacVerify.result (g.W.Walk.steps.Takes c.args.state.now t c.item-in-MacVerify.new.state)) c.in-MacVerify.is c.item-in-MacVerify.ensures.told

pub returns-in-Hash-clause-told : goal.returns-in-Hash-clause-told
unfolding response_payload_by
returns-in-Hash-clause-told g c = told_as (response_payload_by _) (λ t. OnOk c.item-in-Hash.result (g.W.Walk.steps.Takes c.args.state.now t c.item-in-Hash.new.state)) c.in-Hash.is c.item-in-Hash.ensures.told

pub returns-in-Import-clause-told : goal.returns-in-Import-clause-told
unfolding response_payload_by
returns-in-Import-clause-told g c = told_as (response_payload_by _) (λ t. OnOk c.item-in-Import.result (g.W.Walk.steps.Takes c.args.state.now t c.item-in-Import.new.state)) c.in-Import.is c.item-in-Import.ensures.told

pub returns-in-Export-clause-told : goal.returns-in-Export-clause-told
unfolding response_payload_by
returns-in-Export-clause-told g c = told_as (response_payload_by _) (λ t. OnOk c.item-in-Export.result (g.W.Walk.steps.Takes c.args.state.now t c.item-in-Export.new.state)) c.in-Export.is c.item-in-Export.ensures.told

pub returns-in-Login-clause-told : goal.returns-in-Login-clause-told
unfolding response_payload_by
returns-in-Login-clause-told g c = told_as (response_payload_by _) (λ t. OnOk c.item-in-Login.result (g.W.Walk.steps.Takes c.args.state.now t c.item-in-Login.new.state)) c.in-Login.is c.item-in-Login.ensures.told

pub returns-in-Other-clause-told : goal.returns-in-Other-clause-told
unfolding response_payload_by
returns-in-Other-clause-told g c = told_as (response_payload_by _) (λ t. OnOk c.item-in-Other.result (g.W.Walk.steps.Takes c.args.state.now t c.item-in-Other.new.state)) c.in-Other.is c.item-in-Other.ensures.told
