-- Written by codegen from types.table: change that, and run codegen/codegen.
-- Which rules choose what, and what is there of what may be.
use Rattle.std.proofs.Common.{refl, true}
use Rattle.std.specs.Option.{IsSomeAnd}
use Rattle.std.specs.Prelude.{List, None, Option, Some, codes, ℕ, ◌+◌, ◌≡◌, [], ◌∷◌}
use Rattle.std.specs.Str.{chars, trim_end, trim_start}
use lib.Utf8.{encode}
use Rattle.kmip_ttlv_kinds.specs.Choices.{Case, ChoiceOf, Held, Meaning, TypedCase, as_item, case_of, choice_by, choice_by_type, typed_case}
use Rattle.kmip_ttlv_parts.proofs.Equal.{apart, in_variant}
use Rattle.kmip_ttlv_parts.proofs.ChoiceTexts.{BeginsBy, chosen_by_others, chosen_by_text, is_there}
use Rattle.kmip_ttlv_parts.specs.RuleParts.{parts_of}
use Rattle.kmip_ttlv_parts.specs.Forms.{Variants, enum, no_variants, variant, wrapped}
use Rattle.kmip_ttlv_parts.specs.MessageParts.{there}
use Rattle.kmip_ttlv_parts.specs.Names.{number, tag_of}
use Rattle.kmip_ttlv_parts.specs.Returns.{IsNoneOf}
use Rattle.kmip_ttlv_parts.specs.Rules.{at_least, equal, in_brackets, member, rule, sides}
use Rattle.std.proofs.Common.{Bool as Boole}
use Rattle.kmip_ttlv_parts.specs.declared.types.TtlvType.{TtlvType}
use Rattle.kmip_ttlv_parts.specs.declared.types.TtlvType.TheVariants as types
use Rattle.kmip_ttlv_parts.specs.declared.enumeration.Enumeration.{Enumeration}
use Rattle.kmip_ttlv_parts.specs.declared.boxed.Boxed.{Boxed}
use Rattle.kmip_requests.specs.declared.request_payload.RegisterRequest.{RegisterRequest}
use Rattle.kmip_requests.specs.declared.request_payload.AttributeReference.{AttributeReference}
use Rattle.kmip_requests.specs.declared.request_payload.AttributeReference.TheVariants as attribute_reference
use Rattle.kmip_requests.specs.declared.request_payload.ImportRequest.{ImportRequest}
use Rattle.kmip_requests.specs.declared.request_payload.RequestPayload.{RequestPayload}
use Rattle.kmip_requests.specs.declared.request_payload.RequestPayload.TheVariants as request_payload
use Rattle.kmip_objects.specs.declared.object.ManagedObject.{ManagedObject}
use Rattle.kmip_objects.specs.declared.object.ManagedObject.TheVariants as managed_object
use Rattle.kmip_ttlv_parts.specs.declared.kept.Kept.{Kept}
use Rattle.kmip_requests.specs.declared.request_payload.CreateRequest.{CreateRequest}
use Rattle.kmip_requests.specs.declared.request_payload.CreateKeyPairRequest.{CreateKeyPairRequest}
use Rattle.kmip_requests.specs.declared.request_payload.ReKeyRequest.{ReKeyRequest}
use Rattle.kmip_requests.specs.declared.request_payload.DeriveKeyRequest.{DeriveKeyRequest}
use Rattle.kmip_requests.specs.declared.request_payload.LocateRequest.{LocateRequest}
use Rattle.kmip_requests.specs.declared.request_payload.CheckRequest.{CheckRequest}
use Rattle.kmip_requests.specs.declared.request_payload.GetRequest.{GetRequest}
use Rattle.kmip_requests.specs.declared.request_payload.GetAttributesRequest.{GetAttributesRequest}
use Rattle.kmip_requests.specs.declared.request_payload.ObjectRequest.{ObjectRequest}
use Rattle.kmip_requests.specs.declared.request_payload.AttributeRequest.{AttributeRequest}
use Rattle.kmip_requests.specs.declared.request_payload.DeleteAttributeRequest.{DeleteAttributeRequest}
use Rattle.kmip_requests.specs.declared.request_payload.UsageAllocationRequest.{UsageAllocationRequest}
use Rattle.kmip_requests.specs.declared.request_payload.RevokeRequest.{RevokeRequest}
use Rattle.kmip_requests.specs.declared.request_payload.QueryRequest.{QueryRequest}
use Rattle.kmip_requests.specs.declared.request_payload.AsynchronousRequest.{AsynchronousRequest}
use Rattle.kmip_requests.specs.declared.request_payload.ReKeyKeyPairRequest.{ReKeyKeyPairRequest}
use Rattle.kmip_requests.specs.declared.request_payload.DiscoverVersionsRequest.{DiscoverVersionsRequest}
use Rattle.kmip_requests.specs.declared.request_payload.CryptographicRequest.{CryptographicRequest}
use Rattle.kmip_requests.specs.declared.request_payload.ExportRequest.{ExportRequest}
use Rattle.kmip_requests.specs.declared.request_payload.LoginRequest.{LoginRequest}
use Rattle.kmip_requests.specs.declared.request_payload.TicketRequest.{TicketRequest}

-- which `object` of a `RegisterRequest` is there, if it is exactly one
abbrev pub IsRegisterRequestObject : {A : Type 0} → RegisterRequest A → Option (ManagedObject A) → Type 0
IsRegisterRequestObject x None = (there x.certificate + (there x.symmetric_key + (there x.public_key + (there x.private_key + (there x.split_key + (there x.template + (there x.secret_data + there x.opaque_object)))))) ≡ 1) → ⊥
IsRegisterRequestObject x (Some (managed_object.Certificate inner)) = (x.certificate ≡ Some inner.now) × (x.symmetric_key ≡ None) × (x.public_key ≡ None) × (x.private_key ≡ None) × (x.split_key ≡ None) × (x.template ≡ None) × (x.secret_data ≡ None) × (x.opaque_object ≡ None)
IsRegisterRequestObject x (Some (managed_object.SymmetricKey inner)) = (x.certificate ≡ None) × (IsSomeAnd x.symmetric_key (λ y. y.inner.value ≡ inner.now)) × (x.public_key ≡ None) × (x.private_key ≡ None) × (x.split_key ≡ None) × (x.template ≡ None) × (x.secret_data ≡ None) × (x.opaque_object ≡ None)
IsRegisterRequestObject x (Some (managed_object.PublicKey inner)) = (x.certificate ≡ None) × (x.symmetric_key ≡ None) × (IsSomeAnd x.public_key (λ y. y.inner.value ≡ inner.now)) × (x.private_key ≡ None) × (x.split_key ≡ None) × (x.template ≡ None) × (x.secret_data ≡ None) × (x.opaque_object ≡ None)
IsRegisterRequestObject x (Some (managed_object.PrivateKey inner)) = (x.certificate ≡ None) × (x.symmetric_key ≡ None) × (x.public_key ≡ None) × (IsSomeAnd x.private_key (λ y. y.inner.value ≡ inner.now)) × (x.split_key ≡ None) × (x.template ≡ None) × (x.secret_data ≡ None) × (x.opaque_object ≡ None)
IsRegisterRequestObject x (Some (managed_object.SplitKey inner)) = (x.certificate ≡ None) × (x.symmetric_key ≡ None) × (x.public_key ≡ None) × (x.private_key ≡ None) × (IsSomeAnd x.split_key (λ y. y.inner.value ≡ inner.now)) × (x.template ≡ None) × (x.secret_data ≡ None) × (x.opaque_object ≡ None)
IsRegisterRequestObject x (Some (managed_object.Template inner)) = (x.certificate ≡ None) × (x.symmetric_key ≡ None) × (x.public_key ≡ None) × (x.private_key ≡ None) × (x.split_key ≡ None) × (x.template ≡ Some inner.now) × (x.secret_data ≡ None) × (x.opaque_object ≡ None)
IsRegisterRequestObject x (Some (managed_object.SecretData inner)) = (x.certificate ≡ None) × (x.symmetric_key ≡ None) × (x.public_key ≡ None) × (x.private_key ≡ None) × (x.split_key ≡ None) × (x.template ≡ None) × (IsSomeAnd x.secret_data (λ y. y.inner.value ≡ inner.now)) × (x.opaque_object ≡ None)
IsRegisterRequestObject x (Some (managed_object.OpaqueObject inner)) = (x.certificate ≡ None) × (x.symmetric_key ≡ None) × (x.public_key ≡ None) × (x.private_key ≡ None) × (x.split_key ≡ None) × (x.template ≡ None) × (x.secret_data ≡ None) × (x.opaque_object ≡ Some inner.now)

-- the type of the item of a `AttributeReference`
abbrev pub attribute_reference_typ : {A : Type 0} → AttributeReference A → TtlvType
attribute_reference_typ (attribute_reference.Tag x) = types.Enumeration
attribute_reference_typ (attribute_reference.Named x) = types.Structure

-- what each thing means that a `AttributeReference` may hold
pub record AttributeReferenceCases (A : Type 0) : Type 1 where
  pub tag : ℕ → Meaning
  pub named : Kept A → Meaning

-- what it means
unfoldable pub attribute_reference_by : {A : Type 0} → AttributeReferenceCases A → AttributeReference A → Meaning
attribute_reference_by f (attribute_reference.Tag x) = f.tag x
attribute_reference_by f (attribute_reference.Named x) = f.named x

-- what a `AttributeReference` may hold
pub record AttributeReferenceItems (A : Type 0) (eq : AttributeReference A → AttributeReference A → Boole) : Type 1 where
  pub tag : Held 0x42013B types.Enumeration attribute_reference.Tag eq
  pub named : Held 0x42013B types.Structure attribute_reference.Named eq

-- its variants, by their rules
abbrev pub attribute_reference_variants : {A : Type 0} {eq : AttributeReference A → AttributeReference A → Boole} → AttributeReferenceItems A eq → Variants
attribute_reference_variants i =
    variant (codes "if type==Enumeration") (wrapped i.tag.form) (
    variant (codes "if type==Structure") (wrapped i.named.form) no_variants)

abbrev pub attribute_reference_cases : {A : Type 0} {eq : AttributeReference A → AttributeReference A → Boole} → AttributeReferenceItems A eq → AttributeReferenceCases A
attribute_reference_cases i = record {
  tag = as_item (codes "reference") (codes "if type==Enumeration") i.tag;
  named = as_item (codes "reference") (codes "if type==Structure") i.named;
}

pub attribute_reference_case : {A : Type 0} {eq : AttributeReference A → AttributeReference A → Boole} (i : AttributeReferenceItems A eq) (x : AttributeReference A)
    → TypedCase 0x42013B (attribute_reference_typ x) (enum (codes "reference") (attribute_reference_variants i)) (attribute_reference_by (attribute_reference_cases i) x)
unfolding tag_of number rule sides equal at_least member in_brackets trim_end chars trim_start encode attribute_reference_by
attribute_reference_case i (attribute_reference.Tag x) = typed_case i.tag x (is_there _ 0 refl) (λ k. refl)
attribute_reference_case i (attribute_reference.Named x) = typed_case i.named x (is_there _ 1 refl) (λ k. refl)

pub attribute_reference_same : {A : Type 0} {eq : AttributeReference A → AttributeReference A → Boole} (i : AttributeReferenceItems A eq) (x y : AttributeReference A)
    → (attribute_reference_by (attribute_reference_cases i) x).value ≡ (attribute_reference_by (attribute_reference_cases i) y).value
    → eq x y ≡ true
unfolding attribute_reference_by
attribute_reference_same i (attribute_reference.Tag x) (attribute_reference.Tag y) e = i.tag.same x y (i.tag.rules.same x y (in_variant e))
attribute_reference_same i (attribute_reference.Named x) (attribute_reference.Named y) e = i.named.same x y (i.named.rules.same x y (in_variant e))
attribute_reference_same i x y e = absurd (apart e refl)

-- the choice
abbrev pub attribute_reference_choice : {A : Type 0} (eq : AttributeReference A → AttributeReference A → Boole) → AttributeReferenceItems A eq → ChoiceOf (AttributeReference A)
attribute_reference_choice eq i = choice_by_type {typ = attribute_reference_typ} {m = attribute_reference_by (attribute_reference_cases i)} 0x42013B (attribute_reference_case i) eq (attribute_reference_same i)

-- which `object` of a `ImportRequest` is there, if it is exactly one
abbrev pub IsImportRequestObject : {A : Type 0} → ImportRequest A → Option (ManagedObject A) → Type 0
IsImportRequestObject x None = (there x.certificate + (there x.symmetric_key + (there x.public_key + (there x.private_key + (there x.split_key + (there x.template + (there x.secret_data + there x.opaque_object)))))) ≡ 1) → ⊥
IsImportRequestObject x (Some (managed_object.Certificate inner)) = (x.certificate ≡ Some inner.now) × (x.symmetric_key ≡ None) × (x.public_key ≡ None) × (x.private_key ≡ None) × (x.split_key ≡ None) × (x.template ≡ None) × (x.secret_data ≡ None) × (x.opaque_object ≡ None)
IsImportRequestObject x (Some (managed_object.SymmetricKey inner)) = (x.certificate ≡ None) × (IsSomeAnd x.symmetric_key (λ y. y.inner.value ≡ inner.now)) × (x.public_key ≡ None) × (x.private_key ≡ None) × (x.split_key ≡ None) × (x.template ≡ None) × (x.secret_data ≡ None) × (x.opaque_object ≡ None)
IsImportRequestObject x (Some (managed_object.PublicKey inner)) = (x.certificate ≡ None) × (x.symmetric_key ≡ None) × (IsSomeAnd x.public_key (λ y. y.inner.value ≡ inner.now)) × (x.private_key ≡ None) × (x.split_key ≡ None) × (x.template ≡ None) × (x.secret_data ≡ None) × (x.opaque_object ≡ None)
IsImportRequestObject x (Some (managed_object.PrivateKey inner)) = (x.certificate ≡ None) × (x.symmetric_key ≡ None) × (x.public_key ≡ None) × (IsSomeAnd x.private_key (λ y. y.inner.value ≡ inner.now)) × (x.split_key ≡ None) × (x.template ≡ None) × (x.secret_data ≡ None) × (x.opaque_object ≡ None)
IsImportRequestObject x (Some (managed_object.SplitKey inner)) = (x.certificate ≡ None) × (x.symmetric_key ≡ None) × (x.public_key ≡ None) × (x.private_key ≡ None) × (IsSomeAnd x.split_key (λ y. y.inner.value ≡ inner.now)) × (x.template ≡ None) × (x.secret_data ≡ None) × (x.opaque_object ≡ None)
IsImportRequestObject x (Some (managed_object.Template inner)) = (x.certificate ≡ None) × (x.symmetric_key ≡ None) × (x.public_key ≡ None) × (x.private_key ≡ None) × (x.split_key ≡ None) × (x.template ≡ Some inner.now) × (x.secret_data ≡ None) × (x.opaque_object ≡ None)
IsImportRequestObject x (Some (managed_object.SecretData inner)) = (x.certificate ≡ None) × (x.symmetric_key ≡ None) × (x.public_key ≡ None) × (x.private_key ≡ None) × (x.split_key ≡ None) × (x.template ≡ None) × (IsSomeAnd x.secret_data (λ y. y.inner.value ≡ inner.now)) × (x.opaque_object ≡ None)
IsImportRequestObject x (Some (managed_object.OpaqueObject inner)) = (x.certificate ≡ None) × (x.symmetric_key ≡ None) × (x.public_key ≡ None) × (x.private_key ≡ None) × (x.split_key ≡ None) × (x.template ≡ None) × (x.secret_data ≡ None) × (x.opaque_object ≡ Some inner.now)

-- the texts of 42005C that choose a variant of a `RequestPayload` whatever the type of its item is
abbrev pub request_payload_names : List (List ℕ)
request_payload_names =
    codes "0x00000001" ∷
    codes "0x00000002" ∷
    codes "0x00000003" ∷
    codes "0x00000004" ∷
    codes "0x00000005" ∷
    codes "0x00000008" ∷
    codes "0x00000009" ∷
    codes "0x0000000A" ∷
    codes "0x0000000B" ∷
    codes "0x0000000C" ∷
    codes "0x0000000D" ∷
    codes "0x0000000E" ∷
    codes "0x0000000F" ∷
    codes "0x00000010" ∷
    codes "0x00000011" ∷
    codes "0x00000012" ∷
    codes "0x00000013" ∷
    codes "0x00000014" ∷
    codes "0x00000015" ∷
    codes "0x00000016" ∷
    codes "0x00000018" ∷
    codes "0x00000019" ∷
    codes "0x0000001A" ∷
    codes "0x0000001D" ∷
    codes "0x0000001E" ∷
    codes "0x0000001F" ∷
    codes "0x00000020" ∷
    codes "0x00000021" ∷
    codes "0x00000022" ∷
    codes "0x00000023" ∷
    codes "0x00000024" ∷
    codes "0x00000027" ∷
    codes "0x0000002A" ∷
    codes "0x0000002B" ∷
    codes "0x0000002D" ∷
    codes "0x0000002E" ∷
    []

-- what is said, if it is the text of 42005C, chooses what is in a `RequestPayload`
abbrev pub ChoosesRequestPayload : {A : Type 0} → List ℕ → RequestPayload A → Type 0
ChoosesRequestPayload said (request_payload.Create x) = (said ≡ codes "0x00000001")
ChoosesRequestPayload said (request_payload.CreateKeyPair x) = (said ≡ codes "0x00000002")
ChoosesRequestPayload said (request_payload.Register x) = (said ≡ codes "0x00000003")
ChoosesRequestPayload said (request_payload.ReKey x) = (said ≡ codes "0x00000004")
ChoosesRequestPayload said (request_payload.DeriveKey x) = (said ≡ codes "0x00000005")
ChoosesRequestPayload said (request_payload.Locate x) = (said ≡ codes "0x00000008")
ChoosesRequestPayload said (request_payload.Check x) = (said ≡ codes "0x00000009")
ChoosesRequestPayload said (request_payload.Get x) = (said ≡ codes "0x0000000A")
ChoosesRequestPayload said (request_payload.GetAttributes x) = (said ≡ codes "0x0000000B")
ChoosesRequestPayload said (request_payload.GetAttributeList x) = (said ≡ codes "0x0000000C")
ChoosesRequestPayload said (request_payload.AddAttribute x) = (said ≡ codes "0x0000000D")
ChoosesRequestPayload said (request_payload.ModifyAttribute x) = (said ≡ codes "0x0000000E")
ChoosesRequestPayload said (request_payload.DeleteAttribute x) = (said ≡ codes "0x0000000F")
ChoosesRequestPayload said (request_payload.ObtainLease x) = (said ≡ codes "0x00000010")
ChoosesRequestPayload said (request_payload.GetUsageAllocation x) = (said ≡ codes "0x00000011")
ChoosesRequestPayload said (request_payload.Activate x) = (said ≡ codes "0x00000012")
ChoosesRequestPayload said (request_payload.Revoke x) = (said ≡ codes "0x00000013")
ChoosesRequestPayload said (request_payload.Destroy x) = (said ≡ codes "0x00000014")
ChoosesRequestPayload said (request_payload.Archive x) = (said ≡ codes "0x00000015")
ChoosesRequestPayload said (request_payload.Recover x) = (said ≡ codes "0x00000016")
ChoosesRequestPayload said (request_payload.Query x) = (said ≡ codes "0x00000018")
ChoosesRequestPayload said (request_payload.Cancel x) = (said ≡ codes "0x00000019")
ChoosesRequestPayload said (request_payload.Poll x) = (said ≡ codes "0x0000001A")
ChoosesRequestPayload said (request_payload.ReKeyKeyPair x) = (said ≡ codes "0x0000001D")
ChoosesRequestPayload said (request_payload.DiscoverVersions x) = (said ≡ codes "0x0000001E")
ChoosesRequestPayload said (request_payload.Encrypt x) = (said ≡ codes "0x0000001F")
ChoosesRequestPayload said (request_payload.Decrypt x) = (said ≡ codes "0x00000020")
ChoosesRequestPayload said (request_payload.Sign x) = (said ≡ codes "0x00000021")
ChoosesRequestPayload said (request_payload.SignatureVerify x) = (said ≡ codes "0x00000022")
ChoosesRequestPayload said (request_payload.Mac x) = (said ≡ codes "0x00000023")
ChoosesRequestPayload said (request_payload.MacVerify x) = (said ≡ codes "0x00000024")
ChoosesRequestPayload said (request_payload.Hash x) = (said ≡ codes "0x00000027")
ChoosesRequestPayload said (request_payload.Import x) = (said ≡ codes "0x0000002A")
ChoosesRequestPayload said (request_payload.Export x) = (said ≡ codes "0x0000002B")
ChoosesRequestPayload said (request_payload.Login x) = (said ≡ codes "0x0000002D")
ChoosesRequestPayload said (request_payload.Logout x) = (said ≡ codes "0x0000002E")
ChoosesRequestPayload said (request_payload.Other x) = IsNoneOf said request_payload_names

-- what each thing means that a `RequestPayload` may hold
pub record RequestPayloadCases (A : Type 0) : Type 1 where
  pub create : CreateRequest A → Meaning
  pub create_key_pair : Boxed (CreateKeyPairRequest A) A → Meaning
  pub register : Boxed (RegisterRequest A) A → Meaning
  pub re_key : Boxed (ReKeyRequest A) A → Meaning
  pub derive_key : Boxed (DeriveKeyRequest A) A → Meaning
  pub locate : LocateRequest A → Meaning
  pub check : CheckRequest A → Meaning
  pub get : GetRequest A → Meaning
  pub get_attributes : GetAttributesRequest A → Meaning
  pub get_attribute_list : ObjectRequest A → Meaning
  pub add_attribute : Boxed (AttributeRequest A) A → Meaning
  pub modify_attribute : Boxed (AttributeRequest A) A → Meaning
  pub delete_attribute : Boxed (DeleteAttributeRequest A) A → Meaning
  pub obtain_lease : ObjectRequest A → Meaning
  pub get_usage_allocation : UsageAllocationRequest A → Meaning
  pub activate : ObjectRequest A → Meaning
  pub revoke : RevokeRequest A → Meaning
  pub destroy : ObjectRequest A → Meaning
  pub archive : ObjectRequest A → Meaning
  pub recover : ObjectRequest A → Meaning
  pub query : QueryRequest A → Meaning
  pub cancel : AsynchronousRequest A → Meaning
  pub poll : AsynchronousRequest A → Meaning
  pub re_key_key_pair : Boxed (ReKeyKeyPairRequest A) A → Meaning
  pub discover_versions : DiscoverVersionsRequest A → Meaning
  pub encrypt : Boxed (CryptographicRequest A) A → Meaning
  pub decrypt : Boxed (CryptographicRequest A) A → Meaning
  pub sign : Boxed (CryptographicRequest A) A → Meaning
  pub signature_verify : Boxed (CryptographicRequest A) A → Meaning
  pub mac : Boxed (CryptographicRequest A) A → Meaning
  pub mac_verify : Boxed (CryptographicRequest A) A → Meaning
  pub hash : Boxed (CryptographicRequest A) A → Meaning
  pub import : Boxed (ImportRequest A) A → Meaning
  pub export : Boxed (ExportRequest A) A → Meaning
  pub login : LoginRequest A → Meaning
  pub logout : TicketRequest A → Meaning
  pub other : Kept A → Meaning

-- what it means
unfoldable pub request_payload_by : {A : Type 0} → RequestPayloadCases A → RequestPayload A → Meaning
request_payload_by f (request_payload.Create x) = f.create x
request_payload_by f (request_payload.CreateKeyPair x) = f.create_key_pair x
request_payload_by f (request_payload.Register x) = f.register x
request_payload_by f (request_payload.ReKey x) = f.re_key x
request_payload_by f (request_payload.DeriveKey x) = f.derive_key x
request_payload_by f (request_payload.Locate x) = f.locate x
request_payload_by f (request_payload.Check x) = f.check x
request_payload_by f (request_payload.Get x) = f.get x
request_payload_by f (request_payload.GetAttributes x) = f.get_attributes x
request_payload_by f (request_payload.GetAttributeList x) = f.get_attribute_list x
request_payload_by f (request_payload.AddAttribute x) = f.add_attribute x
request_payload_by f (request_payload.ModifyAttribute x) = f.modify_attribute x
request_payload_by f (request_payload.DeleteAttribute x) = f.delete_attribute x
request_payload_by f (request_payload.ObtainLease x) = f.obtain_lease x
request_payload_by f (request_payload.GetUsageAllocation x) = f.get_usage_allocation x
request_payload_by f (request_payload.Activate x) = f.activate x
request_payload_by f (request_payload.Revoke x) = f.revoke x
request_payload_by f (request_payload.Destroy x) = f.destroy x
request_payload_by f (request_payload.Archive x) = f.archive x
request_payload_by f (request_payload.Recover x) = f.recover x
request_payload_by f (request_payload.Query x) = f.query x
request_payload_by f (request_payload.Cancel x) = f.cancel x
request_payload_by f (request_payload.Poll x) = f.poll x
request_payload_by f (request_payload.ReKeyKeyPair x) = f.re_key_key_pair x
request_payload_by f (request_payload.DiscoverVersions x) = f.discover_versions x
request_payload_by f (request_payload.Encrypt x) = f.encrypt x
request_payload_by f (request_payload.Decrypt x) = f.decrypt x
request_payload_by f (request_payload.Sign x) = f.sign x
request_payload_by f (request_payload.SignatureVerify x) = f.signature_verify x
request_payload_by f (request_payload.Mac x) = f.mac x
request_payload_by f (request_payload.MacVerify x) = f.mac_verify x
request_payload_by f (request_payload.Hash x) = f.hash x
request_payload_by f (request_payload.Import x) = f.import x
request_payload_by f (request_payload.Export x) = f.export x
request_payload_by f (request_payload.Login x) = f.login x
request_payload_by f (request_payload.Logout x) = f.logout x
request_payload_by f (request_payload.Other x) = f.other x

-- what a `RequestPayload` may hold
pub record RequestPayloadItems (A : Type 0) (eq : RequestPayload A → RequestPayload A → Boole) : Type 1 where
  pub create : Held 0x420079 types.Structure request_payload.Create eq
  pub create_key_pair : Held 0x420079 types.Structure request_payload.CreateKeyPair eq
  pub register : Held 0x420079 types.Structure request_payload.Register eq
  pub re_key : Held 0x420079 types.Structure request_payload.ReKey eq
  pub derive_key : Held 0x420079 types.Structure request_payload.DeriveKey eq
  pub locate : Held 0x420079 types.Structure request_payload.Locate eq
  pub check : Held 0x420079 types.Structure request_payload.Check eq
  pub get : Held 0x420079 types.Structure request_payload.Get eq
  pub get_attributes : Held 0x420079 types.Structure request_payload.GetAttributes eq
  pub get_attribute_list : Held 0x420079 types.Structure request_payload.GetAttributeList eq
  pub add_attribute : Held 0x420079 types.Structure request_payload.AddAttribute eq
  pub modify_attribute : Held 0x420079 types.Structure request_payload.ModifyAttribute eq
  pub delete_attribute : Held 0x420079 types.Structure request_payload.DeleteAttribute eq
  pub obtain_lease : Held 0x420079 types.Structure request_payload.ObtainLease eq
  pub get_usage_allocation : Held 0x420079 types.Structure request_payload.GetUsageAllocation eq
  pub activate : Held 0x420079 types.Structure request_payload.Activate eq
  pub revoke : Held 0x420079 types.Structure request_payload.Revoke eq
  pub destroy : Held 0x420079 types.Structure request_payload.Destroy eq
  pub archive : Held 0x420079 types.Structure request_payload.Archive eq
  pub recover : Held 0x420079 types.Structure request_payload.Recover eq
  pub query : Held 0x420079 types.Structure request_payload.Query eq
  pub cancel : Held 0x420079 types.Structure request_payload.Cancel eq
  pub poll : Held 0x420079 types.Structure request_payload.Poll eq
  pub re_key_key_pair : Held 0x420079 types.Structure request_payload.ReKeyKeyPair eq
  pub discover_versions : Held 0x420079 types.Structure request_payload.DiscoverVersions eq
  pub encrypt : Held 0x420079 types.Structure request_payload.Encrypt eq
  pub decrypt : Held 0x420079 types.Structure request_payload.Decrypt eq
  pub sign : Held 0x420079 types.Structure request_payload.Sign eq
  pub signature_verify : Held 0x420079 types.Structure request_payload.SignatureVerify eq
  pub mac : Held 0x420079 types.Structure request_payload.Mac eq
  pub mac_verify : Held 0x420079 types.Structure request_payload.MacVerify eq
  pub hash : Held 0x420079 types.Structure request_payload.Hash eq
  pub import : Held 0x420079 types.Structure request_payload.Import eq
  pub export : Held 0x420079 types.Structure request_payload.Export eq
  pub login : Held 0x420079 types.Structure request_payload.Login eq
  pub logout : Held 0x420079 types.Structure request_payload.Logout eq
  pub other : Held 0x420079 types.Structure request_payload.Other eq

-- its variants, by their rules
abbrev pub request_payload_variants : {A : Type 0} {eq : RequestPayload A → RequestPayload A → Boole} → RequestPayloadItems A eq → Variants
request_payload_variants i =
    variant (codes "if 0x42005C==0x00000001") (wrapped i.create.form) (
    variant (codes "if 0x42005C==0x00000002") (wrapped i.create_key_pair.form) (
    variant (codes "if 0x42005C==0x00000003") (wrapped i.register.form) (
    variant (codes "if 0x42005C==0x00000004") (wrapped i.re_key.form) (
    variant (codes "if 0x42005C==0x00000005") (wrapped i.derive_key.form) (
    variant (codes "if 0x42005C==0x00000008") (wrapped i.locate.form) (
    variant (codes "if 0x42005C==0x00000009") (wrapped i.check.form) (
    variant (codes "if 0x42005C==0x0000000A") (wrapped i.get.form) (
    variant (codes "if 0x42005C==0x0000000B") (wrapped i.get_attributes.form) (
    variant (codes "if 0x42005C==0x0000000C") (wrapped i.get_attribute_list.form) (
    variant (codes "if 0x42005C==0x0000000D") (wrapped i.add_attribute.form) (
    variant (codes "if 0x42005C==0x0000000E") (wrapped i.modify_attribute.form) (
    variant (codes "if 0x42005C==0x0000000F") (wrapped i.delete_attribute.form) (
    variant (codes "if 0x42005C==0x00000010") (wrapped i.obtain_lease.form) (
    variant (codes "if 0x42005C==0x00000011") (wrapped i.get_usage_allocation.form) (
    variant (codes "if 0x42005C==0x00000012") (wrapped i.activate.form) (
    variant (codes "if 0x42005C==0x00000013") (wrapped i.revoke.form) (
    variant (codes "if 0x42005C==0x00000014") (wrapped i.destroy.form) (
    variant (codes "if 0x42005C==0x00000015") (wrapped i.archive.form) (
    variant (codes "if 0x42005C==0x00000016") (wrapped i.recover.form) (
    variant (codes "if 0x42005C==0x00000018") (wrapped i.query.form) (
    variant (codes "if 0x42005C==0x00000019") (wrapped i.cancel.form) (
    variant (codes "if 0x42005C==0x0000001A") (wrapped i.poll.form) (
    variant (codes "if 0x42005C==0x0000001D") (wrapped i.re_key_key_pair.form) (
    variant (codes "if 0x42005C==0x0000001E") (wrapped i.discover_versions.form) (
    variant (codes "if 0x42005C==0x0000001F") (wrapped i.encrypt.form) (
    variant (codes "if 0x42005C==0x00000020") (wrapped i.decrypt.form) (
    variant (codes "if 0x42005C==0x00000021") (wrapped i.sign.form) (
    variant (codes "if 0x42005C==0x00000022") (wrapped i.signature_verify.form) (
    variant (codes "if 0x42005C==0x00000023") (wrapped i.mac.form) (
    variant (codes "if 0x42005C==0x00000024") (wrapped i.mac_verify.form) (
    variant (codes "if 0x42005C==0x00000027") (wrapped i.hash.form) (
    variant (codes "if 0x42005C==0x0000002A") (wrapped i.import.form) (
    variant (codes "if 0x42005C==0x0000002B") (wrapped i.export.form) (
    variant (codes "if 0x42005C==0x0000002D") (wrapped i.login.form) (
    variant (codes "if 0x42005C==0x0000002E") (wrapped i.logout.form) (
    variant (codes "if type==Structure") (wrapped i.other.form) no_variants))))))))))))))))))))))))))))))))))))

abbrev pub request_payload_cases : {A : Type 0} {eq : RequestPayload A → RequestPayload A → Boole} → RequestPayloadItems A eq → RequestPayloadCases A
request_payload_cases i = record {
  create = as_item (codes "payload") (codes "if 0x42005C==0x00000001") i.create;
  create_key_pair = as_item (codes "payload") (codes "if 0x42005C==0x00000002") i.create_key_pair;
  register = as_item (codes "payload") (codes "if 0x42005C==0x00000003") i.register;
  re_key = as_item (codes "payload") (codes "if 0x42005C==0x00000004") i.re_key;
  derive_key = as_item (codes "payload") (codes "if 0x42005C==0x00000005") i.derive_key;
  locate = as_item (codes "payload") (codes "if 0x42005C==0x00000008") i.locate;
  check = as_item (codes "payload") (codes "if 0x42005C==0x00000009") i.check;
  get = as_item (codes "payload") (codes "if 0x42005C==0x0000000A") i.get;
  get_attributes = as_item (codes "payload") (codes "if 0x42005C==0x0000000B") i.get_attributes;
  get_attribute_list = as_item (codes "payload") (codes "if 0x42005C==0x0000000C") i.get_attribute_list;
  add_attribute = as_item (codes "payload") (codes "if 0x42005C==0x0000000D") i.add_attribute;
  modify_attribute = as_item (codes "payload") (codes "if 0x42005C==0x0000000E") i.modify_attribute;
  delete_attribute = as_item (codes "payload") (codes "if 0x42005C==0x0000000F") i.delete_attribute;
  obtain_lease = as_item (codes "payload") (codes "if 0x42005C==0x00000010") i.obtain_lease;
  get_usage_allocation = as_item (codes "payload") (codes "if 0x42005C==0x00000011") i.get_usage_allocation;
  activate = as_item (codes "payload") (codes "if 0x42005C==0x00000012") i.activate;
  revoke = as_item (codes "payload") (codes "if 0x42005C==0x00000013") i.revoke;
  destroy = as_item (codes "payload") (codes "if 0x42005C==0x00000014") i.destroy;
  archive = as_item (codes "payload") (codes "if 0x42005C==0x00000015") i.archive;
  recover = as_item (codes "payload") (codes "if 0x42005C==0x00000016") i.recover;
  query = as_item (codes "payload") (codes "if 0x42005C==0x00000018") i.query;
  cancel = as_item (codes "payload") (codes "if 0x42005C==0x00000019") i.cancel;
  poll = as_item (codes "payload") (codes "if 0x42005C==0x0000001A") i.poll;
  re_key_key_pair = as_item (codes "payload") (codes "if 0x42005C==0x0000001D") i.re_key_key_pair;
  discover_versions = as_item (codes "payload") (codes "if 0x42005C==0x0000001E") i.discover_versions;
  encrypt = as_item (codes "payload") (codes "if 0x42005C==0x0000001F") i.encrypt;
  decrypt = as_item (codes "payload") (codes "if 0x42005C==0x00000020") i.decrypt;
  sign = as_item (codes "payload") (codes "if 0x42005C==0x00000021") i.sign;
  signature_verify = as_item (codes "payload") (codes "if 0x42005C==0x00000022") i.signature_verify;
  mac = as_item (codes "payload") (codes "if 0x42005C==0x00000023") i.mac;
  mac_verify = as_item (codes "payload") (codes "if 0x42005C==0x00000024") i.mac_verify;
  hash = as_item (codes "payload") (codes "if 0x42005C==0x00000027") i.hash;
  import = as_item (codes "payload") (codes "if 0x42005C==0x0000002A") i.import;
  export = as_item (codes "payload") (codes "if 0x42005C==0x0000002B") i.export;
  login = as_item (codes "payload") (codes "if 0x42005C==0x0000002D") i.login;
  logout = as_item (codes "payload") (codes "if 0x42005C==0x0000002E") i.logout;
  other = as_item (codes "payload") (codes "if type==Structure") i.other;
}

-- the texts of 42005C that its rules ask for
abbrev pub request_payload_texts : List (List (List ℕ))
request_payload_texts =
    (codes "0x00000001" ∷ []) ∷
    (codes "0x00000002" ∷ []) ∷
    (codes "0x00000003" ∷ []) ∷
    (codes "0x00000004" ∷ []) ∷
    (codes "0x00000005" ∷ []) ∷
    (codes "0x00000008" ∷ []) ∷
    (codes "0x00000009" ∷ []) ∷
    (codes "0x0000000A" ∷ []) ∷
    (codes "0x0000000B" ∷ []) ∷
    (codes "0x0000000C" ∷ []) ∷
    (codes "0x0000000D" ∷ []) ∷
    (codes "0x0000000E" ∷ []) ∷
    (codes "0x0000000F" ∷ []) ∷
    (codes "0x00000010" ∷ []) ∷
    (codes "0x00000011" ∷ []) ∷
    (codes "0x00000012" ∷ []) ∷
    (codes "0x00000013" ∷ []) ∷
    (codes "0x00000014" ∷ []) ∷
    (codes "0x00000015" ∷ []) ∷
    (codes "0x00000016" ∷ []) ∷
    (codes "0x00000018" ∷ []) ∷
    (codes "0x00000019" ∷ []) ∷
    (codes "0x0000001A" ∷ []) ∷
    (codes "0x0000001D" ∷ []) ∷
    (codes "0x0000001E" ∷ []) ∷
    (codes "0x0000001F" ∷ []) ∷
    (codes "0x00000020" ∷ []) ∷
    (codes "0x00000021" ∷ []) ∷
    (codes "0x00000022" ∷ []) ∷
    (codes "0x00000023" ∷ []) ∷
    (codes "0x00000024" ∷ []) ∷
    (codes "0x00000027" ∷ []) ∷
    (codes "0x0000002A" ∷ []) ∷
    (codes "0x0000002B" ∷ []) ∷
    (codes "0x0000002D" ∷ []) ∷
    (codes "0x0000002E" ∷ []) ∷
    []

request_payload_begins : {A : Type 0} {eq : RequestPayload A → RequestPayload A → Boole} (i : RequestPayloadItems A eq) → BeginsBy 0x42005C request_payload_texts (request_payload_variants i) (variant (codes "if type==Structure") (wrapped i.other.form) no_variants)
unfolding parts_of
request_payload_begins i = record { all = (refl, (refl, (refl, (refl, (refl, (refl, (refl, (refl, (refl, (refl, (refl, (refl, (refl, (refl, (refl, (refl, (refl, (refl, (refl, (refl, (refl, (refl, (refl, (refl, (refl, (refl, (refl, (refl, (refl, (refl, (refl, (refl, (refl, (refl, (refl, (refl, refl)))))))))))))))))))))))))))))))))))) }

pub request_payload_case : {A : Type 0} {eq : RequestPayload A → RequestPayload A → Boole} (i : RequestPayloadItems A eq) (x : RequestPayload A)
    → Case 0x420079 0x42005C types.Structure (enum (codes "payload") (request_payload_variants i)) (λ said. ChoosesRequestPayload said x) (request_payload_by (request_payload_cases i) x)
unfolding tag_of number rule sides equal at_least member in_brackets trim_end chars trim_start encode request_payload_by
request_payload_case i (request_payload.Create x) = case_of i.create x (is_there _ 0 refl) (λ said chooses. chosen_by_text types.Structure (request_payload_begins i) chooses refl)
request_payload_case i (request_payload.CreateKeyPair x) = case_of i.create_key_pair x (is_there _ 1 refl) (λ said chooses. chosen_by_text types.Structure (request_payload_begins i) chooses refl)
request_payload_case i (request_payload.Register x) = case_of i.register x (is_there _ 2 refl) (λ said chooses. chosen_by_text types.Structure (request_payload_begins i) chooses refl)
request_payload_case i (request_payload.ReKey x) = case_of i.re_key x (is_there _ 3 refl) (λ said chooses. chosen_by_text types.Structure (request_payload_begins i) chooses refl)
request_payload_case i (request_payload.DeriveKey x) = case_of i.derive_key x (is_there _ 4 refl) (λ said chooses. chosen_by_text types.Structure (request_payload_begins i) chooses refl)
request_payload_case i (request_payload.Locate x) = case_of i.locate x (is_there _ 5 refl) (λ said chooses. chosen_by_text types.Structure (request_payload_begins i) chooses refl)
request_payload_case i (request_payload.Check x) = case_of i.check x (is_there _ 6 refl) (λ said chooses. chosen_by_text types.Structure (request_payload_begins i) chooses refl)
request_payload_case i (request_payload.Get x) = case_of i.get x (is_there _ 7 refl) (λ said chooses. chosen_by_text types.Structure (request_payload_begins i) chooses refl)
request_payload_case i (request_payload.GetAttributes x) = case_of i.get_attributes x (is_there _ 8 refl) (λ said chooses. chosen_by_text types.Structure (request_payload_begins i) chooses refl)
request_payload_case i (request_payload.GetAttributeList x) = case_of i.get_attribute_list x (is_there _ 9 refl) (λ said chooses. chosen_by_text types.Structure (request_payload_begins i) chooses refl)
request_payload_case i (request_payload.AddAttribute x) = case_of i.add_attribute x (is_there _ 10 refl) (λ said chooses. chosen_by_text types.Structure (request_payload_begins i) chooses refl)
request_payload_case i (request_payload.ModifyAttribute x) = case_of i.modify_attribute x (is_there _ 11 refl) (λ said chooses. chosen_by_text types.Structure (request_payload_begins i) chooses refl)
request_payload_case i (request_payload.DeleteAttribute x) = case_of i.delete_attribute x (is_there _ 12 refl) (λ said chooses. chosen_by_text types.Structure (request_payload_begins i) chooses refl)
request_payload_case i (request_payload.ObtainLease x) = case_of i.obtain_lease x (is_there _ 13 refl) (λ said chooses. chosen_by_text types.Structure (request_payload_begins i) chooses refl)
request_payload_case i (request_payload.GetUsageAllocation x) = case_of i.get_usage_allocation x (is_there _ 14 refl) (λ said chooses. chosen_by_text types.Structure (request_payload_begins i) chooses refl)
request_payload_case i (request_payload.Activate x) = case_of i.activate x (is_there _ 15 refl) (λ said chooses. chosen_by_text types.Structure (request_payload_begins i) chooses refl)
request_payload_case i (request_payload.Revoke x) = case_of i.revoke x (is_there _ 16 refl) (λ said chooses. chosen_by_text types.Structure (request_payload_begins i) chooses refl)
request_payload_case i (request_payload.Destroy x) = case_of i.destroy x (is_there _ 17 refl) (λ said chooses. chosen_by_text types.Structure (request_payload_begins i) chooses refl)
request_payload_case i (request_payload.Archive x) = case_of i.archive x (is_there _ 18 refl) (λ said chooses. chosen_by_text types.Structure (request_payload_begins i) chooses refl)
request_payload_case i (request_payload.Recover x) = case_of i.recover x (is_there _ 19 refl) (λ said chooses. chosen_by_text types.Structure (request_payload_begins i) chooses refl)
request_payload_case i (request_payload.Query x) = case_of i.query x (is_there _ 20 refl) (λ said chooses. chosen_by_text types.Structure (request_payload_begins i) chooses refl)
request_payload_case i (request_payload.Cancel x) = case_of i.cancel x (is_there _ 21 refl) (λ said chooses. chosen_by_text types.Structure (request_payload_begins i) chooses refl)
request_payload_case i (request_payload.Poll x) = case_of i.poll x (is_there _ 22 refl) (λ said chooses. chosen_by_text types.Structure (request_payload_begins i) chooses refl)
request_payload_case i (request_payload.ReKeyKeyPair x) = case_of i.re_key_key_pair x (is_there _ 23 refl) (λ said chooses. chosen_by_text types.Structure (request_payload_begins i) chooses refl)
request_payload_case i (request_payload.DiscoverVersions x) = case_of i.discover_versions x (is_there _ 24 refl) (λ said chooses. chosen_by_text types.Structure (request_payload_begins i) chooses refl)
request_payload_case i (request_payload.Encrypt x) = case_of i.encrypt x (is_there _ 25 refl) (λ said chooses. chosen_by_text types.Structure (request_payload_begins i) chooses refl)
request_payload_case i (request_payload.Decrypt x) = case_of i.decrypt x (is_there _ 26 refl) (λ said chooses. chosen_by_text types.Structure (request_payload_begins i) chooses refl)
request_payload_case i (request_payload.Sign x) = case_of i.sign x (is_there _ 27 refl) (λ said chooses. chosen_by_text types.Structure (request_payload_begins i) chooses refl)
request_payload_case i (request_payload.SignatureVerify x) = case_of i.signature_verify x (is_there _ 28 refl) (λ said chooses. chosen_by_text types.Structure (request_payload_begins i) chooses refl)
request_payload_case i (request_payload.Mac x) = case_of i.mac x (is_there _ 29 refl) (λ said chooses. chosen_by_text types.Structure (request_payload_begins i) chooses refl)
request_payload_case i (request_payload.MacVerify x) = case_of i.mac_verify x (is_there _ 30 refl) (λ said chooses. chosen_by_text types.Structure (request_payload_begins i) chooses refl)
request_payload_case i (request_payload.Hash x) = case_of i.hash x (is_there _ 31 refl) (λ said chooses. chosen_by_text types.Structure (request_payload_begins i) chooses refl)
request_payload_case i (request_payload.Import x) = case_of i.import x (is_there _ 32 refl) (λ said chooses. chosen_by_text types.Structure (request_payload_begins i) chooses refl)
request_payload_case i (request_payload.Export x) = case_of i.export x (is_there _ 33 refl) (λ said chooses. chosen_by_text types.Structure (request_payload_begins i) chooses refl)
request_payload_case i (request_payload.Login x) = case_of i.login x (is_there _ 34 refl) (λ said chooses. chosen_by_text types.Structure (request_payload_begins i) chooses refl)
request_payload_case i (request_payload.Logout x) = case_of i.logout x (is_there _ 35 refl) (λ said chooses. chosen_by_text types.Structure (request_payload_begins i) chooses refl)
request_payload_case i (request_payload.Other x) = case_of i.other x (is_there _ 36 refl) (λ said none. chosen_by_others types.Structure (request_payload_begins i) none)

pub request_payload_same : {A : Type 0} {eq : RequestPayload A → RequestPayload A → Boole} (i : RequestPayloadItems A eq) (x y : RequestPayload A)
    → (request_payload_by (request_payload_cases i) x).value ≡ (request_payload_by (request_payload_cases i) y).value
    → eq x y ≡ true
unfolding request_payload_by
request_payload_same i (request_payload.Create x) (request_payload.Create y) e = i.create.same x y (i.create.rules.same x y (in_variant e))
request_payload_same i (request_payload.CreateKeyPair x) (request_payload.CreateKeyPair y) e = i.create_key_pair.same x y (i.create_key_pair.rules.same x y (in_variant e))
request_payload_same i (request_payload.Register x) (request_payload.Register y) e = i.register.same x y (i.register.rules.same x y (in_variant e))
request_payload_same i (request_payload.ReKey x) (request_payload.ReKey y) e = i.re_key.same x y (i.re_key.rules.same x y (in_variant e))
request_payload_same i (request_payload.DeriveKey x) (request_payload.DeriveKey y) e = i.derive_key.same x y (i.derive_key.rules.same x y (in_variant e))
request_payload_same i (request_payload.Locate x) (request_payload.Locate y) e = i.locate.same x y (i.locate.rules.same x y (in_variant e))
request_payload_same i (request_payload.Check x) (request_payload.Check y) e = i.check.same x y (i.check.rules.same x y (in_variant e))
request_payload_same i (request_payload.Get x) (request_payload.Get y) e = i.get.same x y (i.get.rules.same x y (in_variant e))
request_payload_same i (request_payload.GetAttributes x) (request_payload.GetAttributes y) e = i.get_attributes.same x y (i.get_attributes.rules.same x y (in_variant e))
request_payload_same i (request_payload.GetAttributeList x) (request_payload.GetAttributeList y) e = i.get_attribute_list.same x y (i.get_attribute_list.rules.same x y (in_variant e))
request_payload_same i (request_payload.AddAttribute x) (request_payload.AddAttribute y) e = i.add_attribute.same x y (i.add_attribute.rules.same x y (in_variant e))
request_payload_same i (request_payload.ModifyAttribute x) (request_payload.ModifyAttribute y) e = i.modify_attribute.same x y (i.modify_attribute.rules.same x y (in_variant e))
request_payload_same i (request_payload.DeleteAttribute x) (request_payload.DeleteAttribute y) e = i.delete_attribute.same x y (i.delete_attribute.rules.same x y (in_variant e))
request_payload_same i (request_payload.ObtainLease x) (request_payload.ObtainLease y) e = i.obtain_lease.same x y (i.obtain_lease.rules.same x y (in_variant e))
request_payload_same i (request_payload.GetUsageAllocation x) (request_payload.GetUsageAllocation y) e = i.get_usage_allocation.same x y (i.get_usage_allocation.rules.same x y (in_variant e))
request_payload_same i (request_payload.Activate x) (request_payload.Activate y) e = i.activate.same x y (i.activate.rules.same x y (in_variant e))
request_payload_same i (request_payload.Revoke x) (request_payload.Revoke y) e = i.revoke.same x y (i.revoke.rules.same x y (in_variant e))
request_payload_same i (request_payload.Destroy x) (request_payload.Destroy y) e = i.destroy.same x y (i.destroy.rules.same x y (in_variant e))
request_payload_same i (request_payload.Archive x) (request_payload.Archive y) e = i.archive.same x y (i.archive.rules.same x y (in_variant e))
request_payload_same i (request_payload.Recover x) (request_payload.Recover y) e = i.recover.same x y (i.recover.rules.same x y (in_variant e))
request_payload_same i (request_payload.Query x) (request_payload.Query y) e = i.query.same x y (i.query.rules.same x y (in_variant e))
request_payload_same i (request_payload.Cancel x) (request_payload.Cancel y) e = i.cancel.same x y (i.cancel.rules.same x y (in_variant e))
request_payload_same i (request_payload.Poll x) (request_payload.Poll y) e = i.poll.same x y (i.poll.rules.same x y (in_variant e))
request_payload_same i (request_payload.ReKeyKeyPair x) (request_payload.ReKeyKeyPair y) e = i.re_key_key_pair.same x y (i.re_key_key_pair.rules.same x y (in_variant e))
request_payload_same i (request_payload.DiscoverVersions x) (request_payload.DiscoverVersions y) e = i.discover_versions.same x y (i.discover_versions.rules.same x y (in_variant e))
request_payload_same i (request_payload.Encrypt x) (request_payload.Encrypt y) e = i.encrypt.same x y (i.encrypt.rules.same x y (in_variant e))
request_payload_same i (request_payload.Decrypt x) (request_payload.Decrypt y) e = i.decrypt.same x y (i.decrypt.rules.same x y (in_variant e))
request_payload_same i (request_payload.Sign x) (request_payload.Sign y) e = i.sign.same x y (i.sign.rules.same x y (in_variant e))
request_payload_same i (request_payload.SignatureVerify x) (request_payload.SignatureVerify y) e = i.signature_verify.same x y (i.signature_verify.rules.same x y (in_variant e))
request_payload_same i (request_payload.Mac x) (request_payload.Mac y) e = i.mac.same x y (i.mac.rules.same x y (in_variant e))
request_payload_same i (request_payload.MacVerify x) (request_payload.MacVerify y) e = i.mac_verify.same x y (i.mac_verify.rules.same x y (in_variant e))
request_payload_same i (request_payload.Hash x) (request_payload.Hash y) e = i.hash.same x y (i.hash.rules.same x y (in_variant e))
request_payload_same i (request_payload.Import x) (request_payload.Import y) e = i.import.same x y (i.import.rules.same x y (in_variant e))
request_payload_same i (request_payload.Export x) (request_payload.Export y) e = i.export.same x y (i.export.rules.same x y (in_variant e))
request_payload_same i (request_payload.Login x) (request_payload.Login y) e = i.login.same x y (i.login.rules.same x y (in_variant e))
request_payload_same i (request_payload.Logout x) (request_payload.Logout y) e = i.logout.same x y (i.logout.rules.same x y (in_variant e))
request_payload_same i (request_payload.Other x) (request_payload.Other y) e = i.other.same x y (i.other.rules.same x y (in_variant e))
request_payload_same i x y e = absurd (apart e refl)

-- the choice
abbrev pub request_payload_choice : {A : Type 0} (eq : RequestPayload A → RequestPayload A → Boole) → RequestPayloadItems A eq → ChoiceOf (RequestPayload A)
request_payload_choice eq i = choice_by {typ = (λ x. types.Structure)} {C = ChoosesRequestPayload} {m = request_payload_by (request_payload_cases i)} 0x420079 0x42005C (request_payload_case i) eq (request_payload_same i)
