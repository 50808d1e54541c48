use Rattle.std.specs.Prelude.{OnOk}
use Rattle.kmip_ttlv_base.specs.Visits.{Receives}
use Rattle.kmip_attribute_set.specs.Tags.{structure_under}
use Rattle.kmip_attribute_set.proofs.Told.{told_as}
use Rattle.kmip_attribute_set.proofs.tags.AttributeStructureUnderTag.visit_under.Goals as goal

pub returns-in-Name-clause-received : goal.returns-in-Name-clause-received
unfolding structure_under
returns-in-Name-clause-received g c =
    told_as (structure_under _ c.args.tag)
    (λ v. OnOk c.visit_structure.result
    (Receives g.V.Visitor.knows g.V.Visitor.step v c.args.visitor.now c.visit_structure.new.visitor))
    c.in-Name.is
    c.visit_structure.ensures.received

pub returns-in-CryptographicParameters-clause-received : goal.returns-in-CryptographicParameters-clause-received
unfolding structure_under
returns-in-CryptographicParameters-clause-received g c =
    told_as (structure_under _ c.args.tag)
    (λ v. OnOk c.visit_boxed.result
    (Receives g.V.Visitor.knows g.V.Visitor.step v c.args.visitor.now c.visit_boxed.new.visitor))
    c.in-CryptographicParameters.is
    c.visit_boxed.ensures.received

pub returns-in-CryptographicDomainParameters-clause-received : goal.returns-in-CryptographicDomainParameters-clause-received
unfolding structure_under
returns-in-CryptographicDomainParameters-clause-received g c =
    told_as (structure_under _ c.args.tag)
    (λ v. OnOk c.visit_structure-in-CryptographicDomainParameters.result
    (Receives g.V.Visitor.knows g.V.Visitor.step v c.args.visitor.now c.visit_structure-in-CryptographicDomainParameters.new.visitor))
    c.in-CryptographicDomainParameters.is
    c.visit_structure-in-CryptographicDomainParameters.ensures.received

pub returns-in-CertificateIdentifier-clause-received : goal.returns-in-CertificateIdentifier-clause-received
unfolding structure_under
returns-in-CertificateIdentifier-clause-received g c =
    told_as (structure_under _ c.args.tag)
    (λ v. OnOk c.visit_structure-in-CertificateIdentifier.result
    (Receives g.V.Visitor.knows g.V.Visitor.step v c.args.visitor.now c.visit_structure-in-CertificateIdentifier.new.visitor))
    c.in-CertificateIdentifier.is
    c.visit_structure-in-CertificateIdentifier.ensures.received

pub returns-in-CertificateSubject-clause-received : goal.returns-in-CertificateSubject-clause-received
unfolding structure_under
returns-in-CertificateSubject-clause-received g c =
    told_as (structure_under _ c.args.tag)
    (λ v. OnOk c.visit_structure-in-CertificateSubject.result
    (Receives g.V.Visitor.knows g.V.Visitor.step v c.args.visitor.now c.visit_structure-in-CertificateSubject.new.visitor))
    c.in-CertificateSubject.is
    c.visit_structure-in-CertificateSubject.ensures.received

pub returns-in-CertificateIssuer-clause-received : goal.returns-in-CertificateIssuer-clause-received
unfolding structure_under
returns-in-CertificateIssuer-clause-received g c =
    told_as (structure_under _ c.args.tag)
    (λ v. OnOk c.visit_structure-in-CertificateIssuer.result
    (Receives g.V.Visitor.knows g.V.Visitor.step v c.args.visitor.now c.visit_structure-in-CertificateIssuer.new.visitor))
    c.in-CertificateIssuer.is
    c.visit_structure-in-CertificateIssuer.ensures.received

pub returns-in-Digest-clause-received : goal.returns-in-Digest-clause-received
unfolding structure_under
returns-in-Digest-clause-received g c =
    told_as (structure_under _ c.args.tag)
    (λ v. OnOk c.visit_structure-in-Digest.result
    (Receives g.V.Visitor.knows g.V.Visitor.step v c.args.visitor.now c.visit_structure-in-Digest.new.visitor))
    c.in-Digest.is
    c.visit_structure-in-Digest.ensures.received

pub returns-in-UsageLimits-clause-received : goal.returns-in-UsageLimits-clause-received
unfolding structure_under
returns-in-UsageLimits-clause-received g c =
    told_as (structure_under _ c.args.tag)
    (λ v. OnOk c.visit_structure-in-UsageLimits.result
    (Receives g.V.Visitor.knows g.V.Visitor.step v c.args.visitor.now c.visit_structure-in-UsageLimits.new.visitor))
    c.in-UsageLimits.is
    c.visit_structure-in-UsageLimits.ensures.received

pub returns-in-RevocationReason-clause-received : goal.returns-in-RevocationReason-clause-received
unfolding structure_under
returns-in-RevocationReason-clause-received g c =
    told_as (structure_under _ c.args.tag)
    (λ v. OnOk c.visit_structure-in-RevocationReason.result
    (Receives g.V.Visitor.knows g.V.Visitor.step v c.args.visitor.now c.visit_structure-in-RevocationReason.new.visitor))
    c.in-RevocationReason.is
    c.visit_structure-in-RevocationReason.ensures.received

pub returns-in-Link-clause-received : goal.returns-in-Link-clause-received
unfolding structure_under
returns-in-Link-clause-received g c =
    told_as (structure_under _ c.args.tag)
    (λ v. OnOk c.visit_structure-in-Link.result
    (Receives g.V.Visitor.knows g.V.Visitor.step v c.args.visitor.now c.visit_structure-in-Link.new.visitor))
    c.in-Link.is
    c.visit_structure-in-Link.ensures.received

pub returns-in-ApplicationSpecificInformation-clause-received : goal.returns-in-ApplicationSpecificInformation-clause-received
unfolding structure_under
returns-in-ApplicationSpecificInformation-clause-received g c =
    told_as (structure_under _ c.args.tag)
    (λ v. OnOk c.visit_structure-in-ApplicationSpecificInformation.result
    (Receives g.V.Visitor.knows g.V.Visitor.step v c.args.visitor.now c.visit_structure-in-ApplicationSpecificInformation.new.visitor))
    c.in-ApplicationSpecificInformation.is
    c.visit_structure-in-ApplicationSpecificInformation.ensures.received

pub returns-in-Other-clause-received : goal.returns-in-Other-clause-received
unfolding structure_under
returns-in-Other-clause-received g c =
    told_as (structure_under _ c.args.tag)
    (λ v. OnOk c.visit_structure-in-Other.result
    (Receives g.V.Visitor.knows g.V.Visitor.step v c.args.visitor.now c.visit_structure-in-Other.new.visitor))
    c.in-Other.is
    c.visit_structure-in-Other.ensures.received
