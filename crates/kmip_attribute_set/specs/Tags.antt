-- Attributes as items under their own tags.
use Rattle.std.specs.Prelude.{◌≡◌, ◌⊎◌, ℕ, ℤ, codes, if◌then◌else◌, is_some, map, option_map, List, [], ◌∷◌, Option, Some, None, Result, Ok, Err, string_bytes}
use Rattle.kmip_ttlv_base.specs.Errors.{IsMemory, invalid_tag, kind_of, mismatch, view_of_kind}
use Rattle.kmip_ttlv_base.specs.Tags.{wrapper_name}
use Rattle.kmip_ttlv_base.specs.Values.{Value, Values, no_values, value, boolean_value, i32_value, u32_value, i64_value, date_time_value, interval_value}
use Rattle.kmip_ttlv_base.specs.Values.{text_value, bytes_value, big_integer_value, newtype_value}
use Rattle.kmip_ttlv_base.specs.declared.error.Error.{Error}
use Rattle.kmip_ttlv_reader.specs.Spots.{structure_value}
use Rattle.kmip_ttlv_reader.specs.Steps.{Outcome, gives}
use Rattle.kmip_ttlv_kinds.specs.Parts.{within}
use Rattle.kmip_ttlv_parts.specs.KeptItems.{values_kept}
use Rattle.kmip_ttlv_parts.specs.declared.kept.Kept.{Kept}
use Rattle.kmip_attributes.specs.declared.attribute.Attribute.{Attribute}
use Rattle.kmip_attributes.specs.declared.attribute.AttributeStructure.{AttributeStructure}
use Rattle.kmip_attributes.specs.declared.attribute.AttributeStructure.TheVariants as structures
use Rattle.kmip_attributes.specs.declared.attribute.AttributeValue.{AttributeValue}
use Rattle.kmip_attributes.specs.declared.attribute.AttributeValue.TheVariants as values
use Rattle.kmip_attributes.specs.declared.structures.Name.{Name}
use Rattle.kmip_attributes.specs.declared.structures.CryptographicParameters.{CryptographicParameters}
use Rattle.kmip_attributes.specs.declared.structures.CryptographicDomainParameters.{CryptographicDomainParameters}
use Rattle.kmip_attributes.specs.declared.structures.CertificateIdentifier.{CertificateIdentifier}
use Rattle.kmip_attributes.specs.declared.structures.CertificateSubject.{CertificateSubject}
use Rattle.kmip_attributes.specs.declared.structures.CertificateIssuer.{CertificateIssuer}
use Rattle.kmip_attributes.specs.declared.structures.Digest.{Digest}
use Rattle.kmip_attributes.specs.declared.structures.UsageLimits.{UsageLimits}
use Rattle.kmip_attributes.specs.declared.structures.RevocationReason.{RevocationReason}
use Rattle.kmip_attributes.specs.declared.structures.Link.{Link}
use Rattle.kmip_attributes.specs.declared.structures.ApplicationSpecificInformation.{ApplicationSpecificInformation}
use Rattle.kmip_attribute_set.specs.declared.attributes.Attributes.{Attributes}
use Rattle.kmip_attribute_set.specs.Names.{attribute_name, attribute_tag}

-- what is written of each structure that an attribute may be
pub record Writings (A : Type 0) : Type 0 where
  pub name : Name A → Values
  pub parameters : CryptographicParameters → Values
  pub domain : CryptographicDomainParameters → Values
  pub identifier : CertificateIdentifier A → Values
  pub subject : CertificateSubject A → Values
  pub issuer : CertificateIssuer A → Values
  pub digest : Digest A → Values
  pub limits : UsageLimits → Values
  pub reason : RevocationReason A → Values
  pub link : Link A → Values
  pub application : ApplicationSpecificInformation A → Values
  pub other : Kept A → Values

-- the structure as an item of this tag
unfoldable pub structure_under : {A : Type 0} → Writings A → ℕ → AttributeStructure A → Value
structure_under w tag (structures.Name x) = structure_value tag (within w.name) x
structure_under w tag (structures.CryptographicParameters x) = structure_value tag (within w.parameters) x.inner.value
structure_under w tag (structures.CryptographicDomainParameters x) = structure_value tag (within w.domain) x
structure_under w tag (structures.CertificateIdentifier x) = structure_value tag (within w.identifier) x
structure_under w tag (structures.CertificateSubject x) = structure_value tag (within w.subject) x
structure_under w tag (structures.CertificateIssuer x) = structure_value tag (within w.issuer) x
structure_under w tag (structures.Digest x) = structure_value tag (within w.digest) x
structure_under w tag (structures.UsageLimits x) = structure_value tag (within w.limits) x
structure_under w tag (structures.RevocationReason x) = structure_value tag (within w.reason) x
structure_under w tag (structures.Link x) = structure_value tag (within w.link) x
structure_under w tag (structures.ApplicationSpecificInformation x) = structure_value tag (within w.application) x
structure_under w tag (structures.Other x) = structure_value tag (within w.other) x

-- the value as an item of this tag
unfoldable pub value_under : {A : Type 0} → (ℕ → AttributeStructure A → Value) → ℕ → AttributeValue A → Value
value_under f tag (values.ObjectType x) = newtype_value (wrapper_name tag) (u32_value x.number)
value_under f tag (values.CryptographicAlgorithm x) = newtype_value (wrapper_name tag) (u32_value x.number)
value_under f tag (values.CertificateType x) = newtype_value (wrapper_name tag) (u32_value x.number)
value_under f tag (values.State x) = newtype_value (wrapper_name tag) (u32_value x.number)
value_under f tag (values.Integer x) = newtype_value (wrapper_name tag) (i32_value x)
value_under f tag (values.LongInteger x) = newtype_value (wrapper_name tag) (i64_value x)
value_under f tag (values.BigInteger x) = newtype_value (wrapper_name tag) (big_integer_value x.bytes.items)
value_under f tag (values.Enumeration x) = newtype_value (wrapper_name tag) (u32_value x)
value_under f tag (values.Boolean x) = newtype_value (wrapper_name tag) (boolean_value x)
value_under f tag (values.TextString x) = newtype_value (wrapper_name tag) (text_value (string_bytes x))
value_under f tag (values.ByteString x) = newtype_value (wrapper_name tag) (bytes_value x.items)
value_under f tag (values.DateTime x) = newtype_value (wrapper_name tag) (date_time_value x.0)
value_under f tag (values.Interval x) = newtype_value (wrapper_name tag) (interval_value x.0)
value_under f tag (values.Structure x) = f tag x

-- a tag, or 0 for none
abbrev pub tag_or_zero : Option ℕ → ℕ
tag_or_zero (Some tag) = tag
tag_or_zero None = 0

-- the first name of attributes that has no tag
abbrev pub untagged : {A : Type 0} → List (Attribute A) → Option (List ℕ)
untagged [] = None
untagged (x ∷ list) = if is_some (attribute_tag (string_bytes x.name)) then untagged list else Some (string_bytes x.name)

-- the error that a name is no tag, or memory ran out
abbrev pub IsNoTag : {A : Type 0} → List ℕ → Error A → Type 0
IsNoTag name e = IsMemory e ⊎ (view_of_kind (kind_of e) ≡ mismatch (invalid_tag name))

-- what is returned for attributes: an error where a name has no tag, and otherwise what is to be
unfoldable pub Tags : {A T : Type 0} → Option (List ℕ) → (Result T (Error A) → Type 0) → Result T (Error A) → Type 0
Tags None Reads r = Reads r
Tags (Some name) Reads (Ok x) = ⊥
Tags (Some name) Reads (Err e) = IsNoTag name e

-- an attribute of a tag's name, whose value is this item under that tag
pub record IsNamed {A : Type 0} (under : ℕ → AttributeValue A → Value) (v : Value) (x : Attribute A) : Type 0 where
  pub tag : ℕ
  pub name_is : string_bytes x.name ≡ attribute_name tag
  pub index : x.index ≡ None
  pub value_is : v ≡ under tag x.value

-- an item is given, and the place behind it, which is this one: this attribute is of its tag's name, and a structure is kept in it
pub record IsNextNamed {A : Type 0} (o : Outcome (Value × ℕ)) (r : Attribute A × ℕ) : Type 0 where
  pub item : Value
  pub given : o ≡ gives (item, r.1)
  pub named : (w : Writings A) → w.other ≡ values_kept → IsNamed (value_under (structure_under w)) item r.0

-- attributes of the tags' names, whose values are these items, in their order
abbrev pub AreNamed : {A : Type 0} → (ℕ → AttributeValue A → Value) → Values → List (Attribute A) → Type 0
AreNamed under no_values [] = Unit {0}
AreNamed under no_values (x ∷ list) = ⊥
AreNamed under (value v vs) [] = ⊥
AreNamed under (value v vs) (x ∷ list) = IsNamed under v x × AreNamed under vs list

-- what is returned for items: what is read of attributes whose values are these, or memory ran out
pub record IsNamedAs {T A : Type 0} (AreNamed : T → Type 0) (Reads : T → Result T (Error A) → Type 0) (r : Result T (Error A)) : Type 0 where
  pub raw : T
  pub named : AreNamed raw
  pub reads : Reads raw r

-- the same, or memory ran out before
unfoldable pub NamesItems : {T A : Type 0} → (T → Type 0) → (T → Result T (Error A) → Type 0) → Result T (Error A) → Type 0
NamesItems AreNamed Reads (Ok x) = IsNamedAs AreNamed Reads (Ok x)
NamesItems AreNamed Reads (Err e) = IsMemory e ⊎ IsNamedAs AreNamed Reads (Err e)

-- what is said of an attribute
pub record Said (A : Type 0) : Type 0 where
  pub name : List ℕ
  pub index : Option ℤ
  pub says : Option (AttributeValue A)

-- what an attribute says
abbrev pub said_of : {A : Type 0} → Attribute A → Said A
said_of x = record { name = string_bytes x.name; index = x.index; says = Some x.value }

-- an Attribute Reference to the attribute of this name: none, if that has no tag
abbrev pub reference_to : {A : Type 0} → List ℕ → Said A
reference_to name = record { name = codes "0x42013B"; index = None; says = option_map values.Enumeration (attribute_tag name) }

-- these items are the Attribute References to attributes of these names, each of which has a tag
pub record Refers {A : Type 0} (IsTagged : Attributes A → Result (Kept A) (Error A) → Type 0) (names : List (List ℕ)) (items : Kept A) : Type 0 where
  pub references : Attributes A
  pub refer : map said_of references.list.items ≡ map reference_to names
  pub are : IsTagged references (Ok items)
