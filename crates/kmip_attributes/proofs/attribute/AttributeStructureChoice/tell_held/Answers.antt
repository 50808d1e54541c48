-- Written by codegen from types.table: change that, and run codegen/codegen.
-- What it answers, by what it holds.
use Rattle.std.specs.Prelude.{OnOk}
use Rattle.kmip_ttlv_kinds.specs.Choices.{told_as}
use Rattle.kmip_attributes.specs.Choices.{attribute_structure_by}
use Rattle.kmip_attributes.proofs.attribute.AttributeStructureChoice.tell_held.Goals as goal

pub returns-in-Name-clause-told : goal.returns-in-Name-clause-told
unfolding attribute_structure_by
returns-in-Name-clause-told g c = told_as (attribute_structure_by _) (λ t. OnOk c.item.result (g.W.Walk.steps.Takes c.args.state.now t c.item.new.state)) c.in-Name.is c.item.ensures.told

pub returns-in-CryptographicParameters-clause-told : goal.returns-in-CryptographicParameters-clause-told
unfolding attribute_structure_by
returns-in-CryptographicParameters-clause-told g c = told_as (attribute_structure_by _) (λ t. OnOk c.item-in-CryptographicParameters.result (g.W.Walk.steps.Takes c.args.state.now t c.item-in-CryptographicParameters.new.state)) c.in-CryptographicParameters.is c.item-in-CryptographicParameters.ensures.told

pub returns-in-CryptographicDomainParameters-clause-told : goal.returns-in-CryptographicDomainParameters-clause-told
unfolding attribute_structure_by
returns-in-CryptographicDomainParameters-clause-told g c = told_as (attribute_structure_by _) (λ t. OnOk c.item-in-CryptographicDomainParameters.result (g.W.Walk.steps.Takes c.args.state.now t c.item-in-CryptographicDomainParameters.new.state)) c.in-CryptographicDomainParameters.is c.item-in-CryptographicDomainParameters.ensures.told

pub returns-in-CertificateIdentifier-clause-told : goal.returns-in-CertificateIdentifier-clause-told
unfolding attribute_structure_by
returns-in-CertificateIdentifier-clause-told g c = told_as (attribute_structure_by _) (λ t. OnOk c.item-in-CertificateIdentifier.result (g.W.Walk.steps.Takes c.args.state.now t c.item-in-CertificateIdentifier.new.state)) c.in-CertificateIdentifier.is c.item-in-CertificateIdentifier.ensures.told

pub returns-in-CertificateSubject-clause-told : goal.returns-in-CertificateSubject-clause-told
unfolding attribute_structure_by
returns-in-CertificateSubject-clause-told g c = told_as (attribute_structure_by _) (λ t. OnOk c.item-in-CertificateSubject.result (g.W.Walk.steps.Takes c.args.state.now t c.item-in-CertificateSubject.new.state)) c.in-CertificateSubject.is c.item-in-CertificateSubject.ensures.told

pub returns-in-CertificateIssuer-clause-told : goal.returns-in-CertificateIssuer-clause-told
unfolding attribute_structure_by
returns-in-CertificateIssuer-clause-told g c = told_as (attribute_structure_by _) (λ t. OnOk c.item-in-CertificateIssuer.result (g.W.Walk.steps.Takes c.args.state.now t c.item-in-CertificateIssuer.new.state)) c.in-CertificateIssuer.is c.item-in-CertificateIssuer.ensures.told

pub returns-in-Digest-clause-told : goal.returns-in-Digest-clause-told
unfolding attribute_structure_by
returns-in-Digest-clause-told g c = told_as (attribute_structure_by _) (λ t. OnOk c.item-in-Digest.result (g.W.Walk.steps.Takes c.args.state.now t c.item-in-Digest.new.state)) c.in-Digest.is c.item-in-Digest.ensures.told

pub returns-in-UsageLimits-clause-told : goal.returns-in-UsageLimits-clause-told
unfolding attribute_structure_by
returns-in-UsageLimits-clause-told g c = told_as (attribute_structure_by _) (λ t. OnOk c.item-in-UsageLimits.result (g.W.Walk.steps.Takes c.args.state.now t c.item-in-UsageLimits.new.state)) c.in-UsageLimits.is c.item-in-UsageLimits.ensures.told

pub returns-in-RevocationReason-clause-told : goal.returns-in-RevocationReason-clause-told
unfolding attribute_structure_by
returns-in-RevocationReason-clause-told g c = told_as (attribute_structure_by _) (λ t. OnOk c.item-in-RevocationReason.result (g.W.Walk.steps.Takes c.args.state.now t c.item-in-RevocationReason.new.state)) c.in-RevocationReason.is c.item-in-RevocationReason.ensures.told

pub returns-in-Link-clause-told : goal.returns-in-Link-clause-told
unfolding attribute_structure_by
returns-in-Link-clause-told g c = told_as (attribute_structure_by _) (λ t. OnOk c.item-in-Link.result (g.W.Walk.steps.Takes c.args.state.now t c.item-in-Link.new.state)) c.in-Link.is c.item-in-Link.ensures.told

pub returns-in-ApplicationSpecificInformation-clause-told : goal.returns-in-ApplicationSpecificInformation-clause-told
unfolding attribute_structure_by
returns-in-ApplicationSpecificInformation-clause-told g c = told_as (attribute_structure_by _) (λ t. OnOk c.item-in-ApplicationSpecificInformation.result (g.W.Walk.steps.Takes c.args.state.now t c.item-in-ApplicationSpecificInformation.new.state)) c.in-ApplicationSpecificInformation.is c.item-in-ApplicationSpecificInformation.ensures.told

pub returns-in-Other-clause-told : goal.returns-in-Other-clause-told
unfolding attribute_structure_by
returns-in-Other-clause-told g c = told_as (attribute_structure_by _) (λ t. OnOk c.item-in-Other.result (g.W.Walk.steps.Takes c.args.state.now t c.item-in-Other.new.state)) c.in-Other.is c.item-in-Other.ensures.told
