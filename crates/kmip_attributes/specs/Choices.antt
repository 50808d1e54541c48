-- Written by codegen from types.table: change that, and run codegen/codegen.
-- Which rules choose what, and what is there of what may be.
use Rattle.std.proofs.Common.{refl, true}
use Rattle.std.specs.Prelude.{List, codes, ℕ, ◌≡◌, [], ◌∷◌}
use Rattle.std.specs.Str.{chars, trim_end, trim_start}
use lib.Utf8.{encode}
use Rattle.kmip_ttlv_kinds.specs.Choices.{Case, ChoiceOf, Held, HeldChoice, Meaning, as_choice, as_item, case_of, case_within, choice_by}
use Rattle.kmip_ttlv_parts.proofs.Equal.{apart, in_variant}
use Rattle.kmip_ttlv_parts.proofs.ChoiceTexts.{BeginsBy, chosen_by_others, chosen_by_text, is_there}
use Rattle.kmip_ttlv_parts.specs.RuleParts.{parts_of}
use Rattle.kmip_ttlv_parts.specs.Forms.{Variants, enum, no_variants, variant, wrapped}
use Rattle.kmip_ttlv_parts.specs.Names.{number, tag_of}
use Rattle.kmip_ttlv_parts.specs.Returns.{IsNoneOf}
use Rattle.kmip_ttlv_parts.specs.Rules.{at_least, equal, in_brackets, member, rule, sides}
use Rattle.std.proofs.Common.{Bool as Boole}
use Rattle.kmip_ttlv_parts.specs.declared.types.TtlvType.{TtlvType}
use Rattle.kmip_ttlv_parts.specs.declared.types.TtlvType.TheVariants as types
use Rattle.kmip_ttlv_parts.specs.declared.enumeration.Enumeration.{Enumeration}
use Rattle.std.proofs.Common.{String, Vec}
use Rattle.std.proofs.Common.{ℤ}
use Rattle.kmip_ttlv_reader.specs.declared.values.DateTime.{DateTime}
use Rattle.kmip_ttlv_reader.specs.declared.values.Interval.{Interval}
use Rattle.kmip_ttlv_parts.specs.declared.boxed.Boxed.{Boxed}
use Rattle.kmip_ttlv_reader.specs.declared.values.BigNumber.{BigNumber}
use Rattle.kmip_attributes.specs.declared.attribute.AttributeStructure.{AttributeStructure}
use Rattle.kmip_attributes.specs.declared.attribute.AttributeStructure.TheVariants as attribute_structure
use Rattle.kmip_attributes.specs.declared.attribute.AttributeValue.{AttributeValue}
use Rattle.kmip_attributes.specs.declared.attribute.AttributeValue.TheVariants as attribute_value
use Rattle.kmip_attributes.specs.declared.structures.Name.{Name}
use Rattle.kmip_attributes.specs.declared.structures.CryptographicParameters.{CryptographicParameters}
use Rattle.kmip_attributes.specs.declared.structures.CryptographicDomainParameters.{CryptographicDomainParameters}
use Rattle.kmip_attributes.specs.declared.structures.CertificateIdentifier.{CertificateIdentifier}
use Rattle.kmip_attributes.specs.declared.structures.CertificateSubject.{CertificateSubject}
use Rattle.kmip_attributes.specs.declared.structures.CertificateIssuer.{CertificateIssuer}
use Rattle.kmip_attributes.specs.declared.structures.Digest.{Digest}
use Rattle.kmip_attributes.specs.declared.structures.UsageLimits.{UsageLimits}
use Rattle.kmip_attributes.specs.declared.structures.RevocationReason.{RevocationReason}
use Rattle.kmip_attributes.specs.declared.structures.Link.{Link}
use Rattle.kmip_attributes.specs.declared.structures.ApplicationSpecificInformation.{ApplicationSpecificInformation}
use Rattle.kmip_ttlv_parts.specs.declared.kept.Kept.{Kept}

-- the texts of 42000A that choose a variant of a `AttributeStructure` whatever the type of its item is
abbrev pub attribute_structure_names : List (List ℕ)
attribute_structure_names =
    codes "Name" ∷
    codes "Cryptographic Parameters" ∷
    codes "Cryptographic Domain Parameters" ∷
    codes "Certificate Identifier" ∷
    codes "Certificate Subject" ∷
    codes "Certificate Issuer" ∷
    codes "Digest" ∷
    codes "Usage Limits" ∷
    codes "Revocation Reason" ∷
    codes "Link" ∷
    codes "Application Specific Information" ∷
    []

-- what is said, if it is the text of 42000A, chooses what is in a `AttributeStructure`
abbrev pub ChoosesAttributeStructure : {A : Type 0} → List ℕ → AttributeStructure A → Type 0
ChoosesAttributeStructure said (attribute_structure.Name x) = (said ≡ codes "Name")
ChoosesAttributeStructure said (attribute_structure.CryptographicParameters x) = (said ≡ codes "Cryptographic Parameters")
ChoosesAttributeStructure said (attribute_structure.CryptographicDomainParameters x) = (said ≡ codes "Cryptographic Domain Parameters")
ChoosesAttributeStructure said (attribute_structure.CertificateIdentifier x) = (said ≡ codes "Certificate Identifier")
ChoosesAttributeStructure said (attribute_structure.CertificateSubject x) = (said ≡ codes "Certificate Subject")
ChoosesAttributeStructure said (attribute_structure.CertificateIssuer x) = (said ≡ codes "Certificate Issuer")
ChoosesAttributeStructure said (attribute_structure.Digest x) = (said ≡ codes "Digest")
ChoosesAttributeStructure said (attribute_structure.UsageLimits x) = (said ≡ codes "Usage Limits")
ChoosesAttributeStructure said (attribute_structure.RevocationReason x) = (said ≡ codes "Revocation Reason")
ChoosesAttributeStructure said (attribute_structure.Link x) = (said ≡ codes "Link")
ChoosesAttributeStructure said (attribute_structure.ApplicationSpecificInformation x) = (said ≡ codes "Application Specific Information")
ChoosesAttributeStructure said (attribute_structure.Other x) = IsNoneOf said attribute_structure_names

-- what each thing means that a `AttributeStructure` may hold
pub record AttributeStructureCases (A : Type 0) : Type 1 where
  pub name : Name A → Meaning
  pub cryptographic_parameters : Boxed CryptographicParameters A → Meaning
  pub cryptographic_domain_parameters : CryptographicDomainParameters → Meaning
  pub certificate_identifier : CertificateIdentifier A → Meaning
  pub certificate_subject : CertificateSubject A → Meaning
  pub certificate_issuer : CertificateIssuer A → Meaning
  pub digest : Digest A → Meaning
  pub usage_limits : UsageLimits → Meaning
  pub revocation_reason : RevocationReason A → Meaning
  pub link : Link A → Meaning
  pub application_specific_information : ApplicationSpecificInformation A → Meaning
  pub other : Kept A → Meaning

-- what it means
unfoldable pub attribute_structure_by : {A : Type 0} → AttributeStructureCases A → AttributeStructure A → Meaning
attribute_structure_by f (attribute_structure.Name x) = f.name x
attribute_structure_by f (attribute_structure.CryptographicParameters x) = f.cryptographic_parameters x
attribute_structure_by f (attribute_structure.CryptographicDomainParameters x) = f.cryptographic_domain_parameters x
attribute_structure_by f (attribute_structure.CertificateIdentifier x) = f.certificate_identifier x
attribute_structure_by f (attribute_structure.CertificateSubject x) = f.certificate_subject x
attribute_structure_by f (attribute_structure.CertificateIssuer x) = f.certificate_issuer x
attribute_structure_by f (attribute_structure.Digest x) = f.digest x
attribute_structure_by f (attribute_structure.UsageLimits x) = f.usage_limits x
attribute_structure_by f (attribute_structure.RevocationReason x) = f.revocation_reason x
attribute_structure_by f (attribute_structure.Link x) = f.link x
attribute_structure_by f (attribute_structure.ApplicationSpecificInformation x) = f.application_specific_information x
attribute_structure_by f (attribute_structure.Other x) = f.other x

-- what a `AttributeStructure` may hold
pub record AttributeStructureItems (A : Type 0) (eq : AttributeStructure A → AttributeStructure A → Boole) : Type 1 where
  pub name : Held 0x42000B types.Structure attribute_structure.Name eq
  pub cryptographic_parameters : Held 0x42000B types.Structure attribute_structure.CryptographicParameters eq
  pub cryptographic_domain_parameters : Held 0x42000B types.Structure attribute_structure.CryptographicDomainParameters eq
  pub certificate_identifier : Held 0x42000B types.Structure attribute_structure.CertificateIdentifier eq
  pub certificate_subject : Held 0x42000B types.Structure attribute_structure.CertificateSubject eq
  pub certificate_issuer : Held 0x42000B types.Structure attribute_structure.CertificateIssuer eq
  pub digest : Held 0x42000B types.Structure attribute_structure.Digest eq
  pub usage_limits : Held 0x42000B types.Structure attribute_structure.UsageLimits eq
  pub revocation_reason : Held 0x42000B types.Structure attribute_structure.RevocationReason eq
  pub link : Held 0x42000B types.Structure attribute_structure.Link eq
  pub application_specific_information : Held 0x42000B types.Structure attribute_structure.ApplicationSpecificInformation eq
  pub other : Held 0x42000B types.Structure attribute_structure.Other eq

-- its variants, by their rules
abbrev pub attribute_structure_variants : {A : Type 0} {eq : AttributeStructure A → AttributeStructure A → Boole} → AttributeStructureItems A eq → Variants
attribute_structure_variants i =
    variant (codes "if 0x42000A==Name") (wrapped i.name.form) (
    variant (codes "if 0x42000A==Cryptographic Parameters") (wrapped i.cryptographic_parameters.form) (
    variant (codes "if 0x42000A==Cryptographic Domain Parameters") (wrapped i.cryptographic_domain_parameters.form) (
    variant (codes "if 0x42000A==Certificate Identifier") (wrapped i.certificate_identifier.form) (
    variant (codes "if 0x42000A==Certificate Subject") (wrapped i.certificate_subject.form) (
    variant (codes "if 0x42000A==Certificate Issuer") (wrapped i.certificate_issuer.form) (
    variant (codes "if 0x42000A==Digest") (wrapped i.digest.form) (
    variant (codes "if 0x42000A==Usage Limits") (wrapped i.usage_limits.form) (
    variant (codes "if 0x42000A==Revocation Reason") (wrapped i.revocation_reason.form) (
    variant (codes "if 0x42000A==Link") (wrapped i.link.form) (
    variant (codes "if 0x42000A==Application Specific Information") (wrapped i.application_specific_information.form) (
    variant (codes "if type==Structure") (wrapped i.other.form) no_variants)))))))))))

abbrev pub attribute_structure_cases : {A : Type 0} {eq : AttributeStructure A → AttributeStructure A → Boole} → AttributeStructureItems A eq → AttributeStructureCases A
attribute_structure_cases i = record {
  name = as_item (codes "structure") (codes "if 0x42000A==Name") i.name;
  cryptographic_parameters = as_item (codes "structure") (codes "if 0x42000A==Cryptographic Parameters") i.cryptographic_parameters;
  cryptographic_domain_parameters = as_item (codes "structure") (codes "if 0x42000A==Cryptographic Domain Parameters") i.cryptographic_domain_parameters;
  certificate_identifier = as_item (codes "structure") (codes "if 0x42000A==Certificate Identifier") i.certificate_identifier;
  certificate_subject = as_item (codes "structure") (codes "if 0x42000A==Certificate Subject") i.certificate_subject;
  certificate_issuer = as_item (codes "structure") (codes "if 0x42000A==Certificate Issuer") i.certificate_issuer;
  digest = as_item (codes "structure") (codes "if 0x42000A==Digest") i.digest;
  usage_limits = as_item (codes "structure") (codes "if 0x42000A==Usage Limits") i.usage_limits;
  revocation_reason = as_item (codes "structure") (codes "if 0x42000A==Revocation Reason") i.revocation_reason;
  link = as_item (codes "structure") (codes "if 0x42000A==Link") i.link;
  application_specific_information = as_item (codes "structure") (codes "if 0x42000A==Application Specific Information") i.application_specific_information;
  other = as_item (codes "structure") (codes "if type==Structure") i.other;
}

-- the texts of 42000A that its rules ask for
abbrev pub attribute_structure_texts : List (List (List ℕ))
attribute_structure_texts =
    (codes "Name" ∷ []) ∷
    (codes "Cryptographic Parameters" ∷ []) ∷
    (codes "Cryptographic Domain Parameters" ∷ []) ∷
    (codes "Certificate Identifier" ∷ []) ∷
    (codes "Certificate Subject" ∷ []) ∷
    (codes "Certificate Issuer" ∷ []) ∷
    (codes "Digest" ∷ []) ∷
    (codes "Usage Limits" ∷ []) ∷
    (codes "Revocation Reason" ∷ []) ∷
    (codes "Link" ∷ []) ∷
    (codes "Application Specific Information" ∷ []) ∷
    []

attribute_structure_begins : {A : Type 0} {eq : AttributeStructure A → AttributeStructure A → Boole} (i : AttributeStructureItems A eq) → BeginsBy 0x42000A attribute_structure_texts (attribute_structure_variants i) (variant (codes "if type==Structure") (wrapped i.other.form) no_variants)
unfolding parts_of
attribute_structure_begins i = record { all = (refl, (refl, (refl, (refl, (refl, (refl, (refl, (refl, (refl, (refl, (refl, refl))))))))))) }

pub attribute_structure_case : {A : Type 0} {eq : AttributeStructure A → AttributeStructure A → Boole} (i : AttributeStructureItems A eq) (x : AttributeStructure A)
    → Case 0x42000B 0x42000A types.Structure (enum (codes "structure") (attribute_structure_variants i)) (λ said. ChoosesAttributeStructure said x) (attribute_structure_by (attribute_structure_cases i) x)
unfolding tag_of number rule sides equal at_least member in_brackets trim_end chars trim_start encode attribute_structure_by
attribute_structure_case i (attribute_structure.Name x) = case_of i.name x (is_there _ 0 refl) (λ said chooses. chosen_by_text types.Structure (attribute_structure_begins i) chooses refl)
attribute_structure_case i (attribute_structure.CryptographicParameters x) = case_of i.cryptographic_parameters x (is_there _ 1 refl) (λ said chooses. chosen_by_text types.Structure (attribute_structure_begins i) chooses refl)
attribute_structure_case i (attribute_structure.CryptographicDomainParameters x) = case_of i.cryptographic_domain_parameters x (is_there _ 2 refl) (λ said chooses. chosen_by_text types.Structure (attribute_structure_begins i) chooses refl)
attribute_structure_case i (attribute_structure.CertificateIdentifier x) = case_of i.certificate_identifier x (is_there _ 3 refl) (λ said chooses. chosen_by_text types.Structure (attribute_structure_begins i) chooses refl)
attribute_structure_case i (attribute_structure.CertificateSubject x) = case_of i.certificate_subject x (is_there _ 4 refl) (λ said chooses. chosen_by_text types.Structure (attribute_structure_begins i) chooses refl)
attribute_structure_case i (attribute_structure.CertificateIssuer x) = case_of i.certificate_issuer x (is_there _ 5 refl) (λ said chooses. chosen_by_text types.Structure (attribute_structure_begins i) chooses refl)
attribute_structure_case i (attribute_structure.Digest x) = case_of i.digest x (is_there _ 6 refl) (λ said chooses. chosen_by_text types.Structure (attribute_structure_begins i) chooses refl)
attribute_structure_case i (attribute_structure.UsageLimits x) = case_of i.usage_limits x (is_there _ 7 refl) (λ said chooses. chosen_by_text types.Structure (attribute_structure_begins i) chooses refl)
attribute_structure_case i (attribute_structure.RevocationReason x) = case_of i.revocation_reason x (is_there _ 8 refl) (λ said chooses. chosen_by_text types.Structure (attribute_structure_begins i) chooses refl)
attribute_structure_case i (attribute_structure.Link x) = case_of i.link x (is_there _ 9 refl) (λ said chooses. chosen_by_text types.Structure (attribute_structure_begins i) chooses refl)
attribute_structure_case i (attribute_structure.ApplicationSpecificInformation x) = case_of i.application_specific_information x (is_there _ 10 refl) (λ said chooses. chosen_by_text types.Structure (attribute_structure_begins i) chooses refl)
attribute_structure_case i (attribute_structure.Other x) = case_of i.other x (is_there _ 11 refl) (λ said none. chosen_by_others types.Structure (attribute_structure_begins i) none)

pub attribute_structure_same : {A : Type 0} {eq : AttributeStructure A → AttributeStructure A → Boole} (i : AttributeStructureItems A eq) (x y : AttributeStructure A)
    → (attribute_structure_by (attribute_structure_cases i) x).value ≡ (attribute_structure_by (attribute_structure_cases i) y).value
    → eq x y ≡ true
unfolding attribute_structure_by
attribute_structure_same i (attribute_structure.Name x) (attribute_structure.Name y) e = i.name.same x y (i.name.rules.same x y (in_variant e))
attribute_structure_same i (attribute_structure.CryptographicParameters x) (attribute_structure.CryptographicParameters y) e = i.cryptographic_parameters.same x y (i.cryptographic_parameters.rules.same x y (in_variant e))
attribute_structure_same i (attribute_structure.CryptographicDomainParameters x) (attribute_structure.CryptographicDomainParameters y) e = i.cryptographic_domain_parameters.same x y (i.cryptographic_domain_parameters.rules.same x y (in_variant e))
attribute_structure_same i (attribute_structure.CertificateIdentifier x) (attribute_structure.CertificateIdentifier y) e = i.certificate_identifier.same x y (i.certificate_identifier.rules.same x y (in_variant e))
attribute_structure_same i (attribute_structure.CertificateSubject x) (attribute_structure.CertificateSubject y) e = i.certificate_subject.same x y (i.certificate_subject.rules.same x y (in_variant e))
attribute_structure_same i (attribute_structure.CertificateIssuer x) (attribute_structure.CertificateIssuer y) e = i.certificate_issuer.same x y (i.certificate_issuer.rules.same x y (in_variant e))
attribute_structure_same i (attribute_structure.Digest x) (attribute_structure.Digest y) e = i.digest.same x y (i.digest.rules.same x y (in_variant e))
attribute_structure_same i (attribute_structure.UsageLimits x) (attribute_structure.UsageLimits y) e = i.usage_limits.same x y (i.usage_limits.rules.same x y (in_variant e))
attribute_structure_same i (attribute_structure.RevocationReason x) (attribute_structure.RevocationReason y) e = i.revocation_reason.same x y (i.revocation_reason.rules.same x y (in_variant e))
attribute_structure_same i (attribute_structure.Link x) (attribute_structure.Link y) e = i.link.same x y (i.link.rules.same x y (in_variant e))
attribute_structure_same i (attribute_structure.ApplicationSpecificInformation x) (attribute_structure.ApplicationSpecificInformation y) e = i.application_specific_information.same x y (i.application_specific_information.rules.same x y (in_variant e))
attribute_structure_same i (attribute_structure.Other x) (attribute_structure.Other y) e = i.other.same x y (i.other.rules.same x y (in_variant e))
attribute_structure_same i x y e = absurd (apart e refl)

-- the choice
abbrev pub attribute_structure_choice : {A : Type 0} (eq : AttributeStructure A → AttributeStructure A → Boole) → AttributeStructureItems A eq → ChoiceOf (AttributeStructure A)
attribute_structure_choice eq i = choice_by {typ = (λ x. types.Structure)} {C = ChoosesAttributeStructure} {m = attribute_structure_by (attribute_structure_cases i)} 0x42000B 0x42000A (attribute_structure_case i) eq (attribute_structure_same i)

-- the texts of 42000A that choose a variant of a `AttributeValue` whatever the type of its item is
abbrev pub attribute_value_names : List (List ℕ)
attribute_value_names =
    codes "Object Type" ∷
    codes "Cryptographic Algorithm" ∷
    codes "Certificate Type" ∷
    codes "State" ∷
    []

-- what is said, if it is the text of 42000A, chooses what is in a `AttributeValue`
abbrev pub ChoosesAttributeValue : {A : Type 0} → List ℕ → AttributeValue A → Type 0
ChoosesAttributeValue said (attribute_value.ObjectType x) = (said ≡ codes "Object Type")
ChoosesAttributeValue said (attribute_value.CryptographicAlgorithm x) = (said ≡ codes "Cryptographic Algorithm")
ChoosesAttributeValue said (attribute_value.CertificateType x) = (said ≡ codes "Certificate Type")
ChoosesAttributeValue said (attribute_value.State x) = (said ≡ codes "State")
ChoosesAttributeValue said (attribute_value.Integer x) = IsNoneOf said attribute_value_names
ChoosesAttributeValue said (attribute_value.LongInteger x) = IsNoneOf said attribute_value_names
ChoosesAttributeValue said (attribute_value.BigInteger x) = IsNoneOf said attribute_value_names
ChoosesAttributeValue said (attribute_value.Enumeration x) = IsNoneOf said attribute_value_names
ChoosesAttributeValue said (attribute_value.Boolean x) = IsNoneOf said attribute_value_names
ChoosesAttributeValue said (attribute_value.TextString x) = IsNoneOf said attribute_value_names
ChoosesAttributeValue said (attribute_value.ByteString x) = IsNoneOf said attribute_value_names
ChoosesAttributeValue said (attribute_value.DateTime x) = IsNoneOf said attribute_value_names
ChoosesAttributeValue said (attribute_value.Interval x) = IsNoneOf said attribute_value_names
ChoosesAttributeValue said (attribute_value.Structure x) = (IsNoneOf said attribute_value_names) × ChoosesAttributeStructure said x

-- the type of the item of a `AttributeValue`
abbrev pub attribute_value_typ : {A : Type 0} → AttributeValue A → TtlvType
attribute_value_typ (attribute_value.ObjectType x) = types.Enumeration
attribute_value_typ (attribute_value.CryptographicAlgorithm x) = types.Enumeration
attribute_value_typ (attribute_value.CertificateType x) = types.Enumeration
attribute_value_typ (attribute_value.State x) = types.Enumeration
attribute_value_typ (attribute_value.Integer x) = types.Integer
attribute_value_typ (attribute_value.LongInteger x) = types.LongInteger
attribute_value_typ (attribute_value.BigInteger x) = types.BigInteger
attribute_value_typ (attribute_value.Enumeration x) = types.Enumeration
attribute_value_typ (attribute_value.Boolean x) = types.Boolean
attribute_value_typ (attribute_value.TextString x) = types.TextString
attribute_value_typ (attribute_value.ByteString x) = types.ByteString
attribute_value_typ (attribute_value.DateTime x) = types.DateTime
attribute_value_typ (attribute_value.Interval x) = types.Interval
attribute_value_typ (attribute_value.Structure x) = types.Structure

-- what each thing means that a `AttributeValue` may hold
pub record AttributeValueCases (A : Type 0) : Type 1 where
  pub object_type : Enumeration 0x420057 → Meaning
  pub cryptographic_algorithm : Enumeration 0x420028 → Meaning
  pub certificate_type : Enumeration 0x42001D → Meaning
  pub state : Enumeration 0x42008D → Meaning
  pub integer : ℤ → Meaning
  pub long_integer : ℤ → Meaning
  pub big_integer : BigNumber A → Meaning
  pub enumeration : ℕ → Meaning
  pub boolean : Boole → Meaning
  pub text_string : String A → Meaning
  pub byte_string : Vec ℕ A → Meaning
  pub date_time : DateTime → Meaning
  pub interval : Interval → Meaning
  pub structure : AttributeStructure A → Meaning

-- what it means
unfoldable pub attribute_value_by : {A : Type 0} → AttributeValueCases A → AttributeValue A → Meaning
attribute_value_by f (attribute_value.ObjectType x) = f.object_type x
attribute_value_by f (attribute_value.CryptographicAlgorithm x) = f.cryptographic_algorithm x
attribute_value_by f (attribute_value.CertificateType x) = f.certificate_type x
attribute_value_by f (attribute_value.State x) = f.state x
attribute_value_by f (attribute_value.Integer x) = f.integer x
attribute_value_by f (attribute_value.LongInteger x) = f.long_integer x
attribute_value_by f (attribute_value.BigInteger x) = f.big_integer x
attribute_value_by f (attribute_value.Enumeration x) = f.enumeration x
attribute_value_by f (attribute_value.Boolean x) = f.boolean x
attribute_value_by f (attribute_value.TextString x) = f.text_string x
attribute_value_by f (attribute_value.ByteString x) = f.byte_string x
attribute_value_by f (attribute_value.DateTime x) = f.date_time x
attribute_value_by f (attribute_value.Interval x) = f.interval x
attribute_value_by f (attribute_value.Structure x) = f.structure x

-- what a `AttributeValue` may hold
pub record AttributeValueItems (A : Type 0) (eq : AttributeValue A → AttributeValue A → Boole) : Type 1 where
  pub object_type : Held 0x42000B types.Enumeration attribute_value.ObjectType eq
  pub cryptographic_algorithm : Held 0x42000B types.Enumeration attribute_value.CryptographicAlgorithm eq
  pub certificate_type : Held 0x42000B types.Enumeration attribute_value.CertificateType eq
  pub state : Held 0x42000B types.Enumeration attribute_value.State eq
  pub integer : Held 0x42000B types.Integer attribute_value.Integer eq
  pub long_integer : Held 0x42000B types.LongInteger attribute_value.LongInteger eq
  pub big_integer : Held 0x42000B types.BigInteger attribute_value.BigInteger eq
  pub enumeration : Held 0x42000B types.Enumeration attribute_value.Enumeration eq
  pub boolean : Held 0x42000B types.Boolean attribute_value.Boolean eq
  pub text_string : Held 0x42000B types.TextString attribute_value.TextString eq
  pub byte_string : Held 0x42000B types.ByteString attribute_value.ByteString eq
  pub date_time : Held 0x42000B types.DateTime attribute_value.DateTime eq
  pub interval : Held 0x42000B types.Interval attribute_value.Interval eq
  pub structure : HeldChoice 0x42000B 0x42000A types.Structure ChoosesAttributeStructure attribute_value.Structure eq

-- its variants, by their rules
abbrev pub attribute_value_variants : {A : Type 0} {eq : AttributeValue A → AttributeValue A → Boole} → AttributeValueItems A eq → Variants
attribute_value_variants i =
    variant (codes "if 0x42000A==Object Type") (wrapped i.object_type.form) (
    variant (codes "if 0x42000A==Cryptographic Algorithm") (wrapped i.cryptographic_algorithm.form) (
    variant (codes "if 0x42000A==Certificate Type") (wrapped i.certificate_type.form) (
    variant (codes "if 0x42000A==State") (wrapped i.state.form) (
    variant (codes "if type==Integer") (wrapped i.integer.form) (
    variant (codes "if type==LongInteger") (wrapped i.long_integer.form) (
    variant (codes "if type==BigInteger") (wrapped i.big_integer.form) (
    variant (codes "if type==Enumeration") (wrapped i.enumeration.form) (
    variant (codes "if type==Boolean") (wrapped i.boolean.form) (
    variant (codes "if type==TextString") (wrapped i.text_string.form) (
    variant (codes "if type==ByteString") (wrapped i.byte_string.form) (
    variant (codes "if type==DateTime") (wrapped i.date_time.form) (
    variant (codes "if type==Interval") (wrapped i.interval.form) (
    variant (codes "if type==Structure") (wrapped i.structure.form) no_variants)))))))))))))

abbrev pub attribute_value_cases : {A : Type 0} {eq : AttributeValue A → AttributeValue A → Boole} → AttributeValueItems A eq → AttributeValueCases A
attribute_value_cases i = record {
  object_type = as_item (codes "value") (codes "if 0x42000A==Object Type") i.object_type;
  cryptographic_algorithm = as_item (codes "value") (codes "if 0x42000A==Cryptographic Algorithm") i.cryptographic_algorithm;
  certificate_type = as_item (codes "value") (codes "if 0x42000A==Certificate Type") i.certificate_type;
  state = as_item (codes "value") (codes "if 0x42000A==State") i.state;
  integer = as_item (codes "value") (codes "if type==Integer") i.integer;
  long_integer = as_item (codes "value") (codes "if type==LongInteger") i.long_integer;
  big_integer = as_item (codes "value") (codes "if type==BigInteger") i.big_integer;
  enumeration = as_item (codes "value") (codes "if type==Enumeration") i.enumeration;
  boolean = as_item (codes "value") (codes "if type==Boolean") i.boolean;
  text_string = as_item (codes "value") (codes "if type==TextString") i.text_string;
  byte_string = as_item (codes "value") (codes "if type==ByteString") i.byte_string;
  date_time = as_item (codes "value") (codes "if type==DateTime") i.date_time;
  interval = as_item (codes "value") (codes "if type==Interval") i.interval;
  structure = as_choice (codes "value") (codes "if type==Structure") i.structure;
}

-- the texts of 42000A that its rules ask for
abbrev pub attribute_value_texts : List (List (List ℕ))
attribute_value_texts =
    (codes "Object Type" ∷ []) ∷
    (codes "Cryptographic Algorithm" ∷ []) ∷
    (codes "Certificate Type" ∷ []) ∷
    (codes "State" ∷ []) ∷
    []

attribute_value_begins : {A : Type 0} {eq : AttributeValue A → AttributeValue A → Boole} (i : AttributeValueItems A eq) → BeginsBy 0x42000A attribute_value_texts (attribute_value_variants i) (variant (codes "if type==Integer") (wrapped i.integer.form) (variant (codes "if type==LongInteger") (wrapped i.long_integer.form) (variant (codes "if type==BigInteger") (wrapped i.big_integer.form) (variant (codes "if type==Enumeration") (wrapped i.enumeration.form) (variant (codes "if type==Boolean") (wrapped i.boolean.form) (variant (codes "if type==TextString") (wrapped i.text_string.form) (variant (codes "if type==ByteString") (wrapped i.byte_string.form) (variant (codes "if type==DateTime") (wrapped i.date_time.form) (variant (codes "if type==Interval") (wrapped i.interval.form) (variant (codes "if type==Structure") (wrapped i.structure.form) no_variants))))))))))
unfolding parts_of
attribute_value_begins i = record { all = (refl, (refl, (refl, (refl, refl)))) }

pub attribute_value_case : {A : Type 0} {eq : AttributeValue A → AttributeValue A → Boole} (i : AttributeValueItems A eq) (x : AttributeValue A)
    → Case 0x42000B 0x42000A (attribute_value_typ x) (enum (codes "value") (attribute_value_variants i)) (λ said. ChoosesAttributeValue said x) (attribute_value_by (attribute_value_cases i) x)
unfolding tag_of number rule sides equal at_least member in_brackets trim_end chars trim_start encode attribute_value_by
attribute_value_case i (attribute_value.ObjectType x) = case_of i.object_type x (is_there _ 0 refl) (λ said chooses. chosen_by_text types.Enumeration (attribute_value_begins i) chooses refl)
attribute_value_case i (attribute_value.CryptographicAlgorithm x) = case_of i.cryptographic_algorithm x (is_there _ 1 refl) (λ said chooses. chosen_by_text types.Enumeration (attribute_value_begins i) chooses refl)
attribute_value_case i (attribute_value.CertificateType x) = case_of i.certificate_type x (is_there _ 2 refl) (λ said chooses. chosen_by_text types.Enumeration (attribute_value_begins i) chooses refl)
attribute_value_case i (attribute_value.State x) = case_of i.state x (is_there _ 3 refl) (λ said chooses. chosen_by_text types.Enumeration (attribute_value_begins i) chooses refl)
attribute_value_case i (attribute_value.Integer x) = case_of i.integer x (is_there _ 4 refl) (λ said none. chosen_by_others types.Integer (attribute_value_begins i) none)
attribute_value_case i (attribute_value.LongInteger x) = case_of i.long_integer x (is_there _ 5 refl) (λ said none. chosen_by_others types.LongInteger (attribute_value_begins i) none)
attribute_value_case i (attribute_value.BigInteger x) = case_of i.big_integer x (is_there _ 6 refl) (λ said none. chosen_by_others types.BigInteger (attribute_value_begins i) none)
attribute_value_case i (attribute_value.Enumeration x) = case_of i.enumeration x (is_there _ 7 refl) (λ said none. chosen_by_others types.Enumeration (attribute_value_begins i) none)
attribute_value_case i (attribute_value.Boolean x) = case_of i.boolean x (is_there _ 8 refl) (λ said none. chosen_by_others types.Boolean (attribute_value_begins i) none)
attribute_value_case i (attribute_value.TextString x) = case_of i.text_string x (is_there _ 9 refl) (λ said none. chosen_by_others types.TextString (attribute_value_begins i) none)
attribute_value_case i (attribute_value.ByteString x) = case_of i.byte_string x (is_there _ 10 refl) (λ said none. chosen_by_others types.ByteString (attribute_value_begins i) none)
attribute_value_case i (attribute_value.DateTime x) = case_of i.date_time x (is_there _ 11 refl) (λ said none. chosen_by_others types.DateTime (attribute_value_begins i) none)
attribute_value_case i (attribute_value.Interval x) = case_of i.interval x (is_there _ 12 refl) (λ said none. chosen_by_others types.Interval (attribute_value_begins i) none)
attribute_value_case i (attribute_value.Structure x) = case_within i.structure x (is_there _ 13 refl) (λ said none. chosen_by_others types.Structure (attribute_value_begins i) none)

pub attribute_value_same : {A : Type 0} {eq : AttributeValue A → AttributeValue A → Boole} (i : AttributeValueItems A eq) (x y : AttributeValue A)
    → (attribute_value_by (attribute_value_cases i) x).value ≡ (attribute_value_by (attribute_value_cases i) y).value
    → eq x y ≡ true
unfolding attribute_value_by
attribute_value_same i (attribute_value.ObjectType x) (attribute_value.ObjectType y) e = i.object_type.same x y (i.object_type.rules.same x y (in_variant e))
attribute_value_same i (attribute_value.CryptographicAlgorithm x) (attribute_value.CryptographicAlgorithm y) e = i.cryptographic_algorithm.same x y (i.cryptographic_algorithm.rules.same x y (in_variant e))
attribute_value_same i (attribute_value.CertificateType x) (attribute_value.CertificateType y) e = i.certificate_type.same x y (i.certificate_type.rules.same x y (in_variant e))
attribute_value_same i (attribute_value.State x) (attribute_value.State y) e = i.state.same x y (i.state.rules.same x y (in_variant e))
attribute_value_same i (attribute_value.Integer x) (attribute_value.Integer y) e = i.integer.same x y (i.integer.rules.same x y (in_variant e))
attribute_value_same i (attribute_value.LongInteger x) (attribute_value.LongInteger y) e = i.long_integer.same x y (i.long_integer.rules.same x y (in_variant e))
attribute_value_same i (attribute_value.BigInteger x) (attribute_value.BigInteger y) e = i.big_integer.same x y (i.big_integer.rules.same x y (in_variant e))
attribute_value_same i (attribute_value.Enumeration x) (attribute_value.Enumeration y) e = i.enumeration.same x y (i.enumeration.rules.same x y (in_variant e))
attribute_value_same i (attribute_value.Boolean x) (attribute_value.Boolean y) e = i.boolean.same x y (i.boolean.rules.same x y (in_variant e))
attribute_value_same i (attribute_value.TextString x) (attribute_value.TextString y) e = i.text_string.same x y (i.text_string.rules.same x y (in_variant e))
attribute_value_same i (attribute_value.ByteString x) (attribute_value.ByteString y) e = i.byte_string.same x y (i.byte_string.rules.same x y (in_variant e))
attribute_value_same i (attribute_value.DateTime x) (attribute_value.DateTime y) e = i.date_time.same x y (i.date_time.rules.same x y (in_variant e))
attribute_value_same i (attribute_value.Interval x) (attribute_value.Interval y) e = i.interval.same x y (i.interval.rules.same x y (in_variant e))
attribute_value_same i (attribute_value.Structure x) (attribute_value.Structure y) e = i.structure.same x y (i.structure.rules.same x y (in_variant e))
attribute_value_same i x y e = absurd (apart e refl)

-- the choice
abbrev pub attribute_value_choice : {A : Type 0} (eq : AttributeValue A → AttributeValue A → Boole) → AttributeValueItems A eq → ChoiceOf (AttributeValue A)
attribute_value_choice eq i = choice_by {typ = attribute_value_typ} {C = ChoosesAttributeValue} {m = attribute_value_by (attribute_value_cases i)} 0x42000B 0x42000A (attribute_value_case i) eq (attribute_value_same i)
