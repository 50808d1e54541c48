-- Written by codegen from types.table: change that, and run codegen/codegen.
-- Which rules choose what, and what is there of what may be.
use Rattle.std.proofs.Common.{refl, true}
use Rattle.std.specs.Option.{IsSomeAnd}
use Rattle.std.specs.Prelude.{List, None, Option, Some, codes, ℕ, ◌+◌, ◌≡◌, [], ◌∷◌}
use Rattle.std.specs.Str.{chars, trim_end, trim_start}
use lib.Utf8.{encode}
use Rattle.kmip_ttlv_kinds.specs.Choices.{Case, ChoiceOf, Held, Meaning, as_item, case_of, choice_by}
use Rattle.kmip_ttlv_parts.proofs.Equal.{apart, in_variant}
use Rattle.kmip_ttlv_parts.proofs.ChoiceTexts.{BeginsBy, chosen_by_others, chosen_by_text, is_there}
use Rattle.kmip_ttlv_parts.specs.RuleParts.{parts_of}
use Rattle.kmip_ttlv_parts.specs.Forms.{Variants, enum, no_variants, variant, wrapped}
use Rattle.kmip_ttlv_parts.specs.MessageParts.{there}
use Rattle.kmip_ttlv_parts.specs.Names.{number, tag_of}
use Rattle.kmip_ttlv_parts.specs.Returns.{IsNoneOf}
use Rattle.kmip_ttlv_parts.specs.Rules.{at_least, equal, in_brackets, member, rule, sides}
use Rattle.std.proofs.Common.{Bool as Boole}
use Rattle.kmip_ttlv_parts.specs.declared.types.TtlvType.{TtlvType}
use Rattle.kmip_ttlv_parts.specs.declared.types.TtlvType.TheVariants as types
use Rattle.kmip_ttlv_parts.specs.declared.boxed.Boxed.{Boxed}
use Rattle.kmip_responses.specs.declared.response_payload.GetResponse.{GetResponse}
use Rattle.kmip_responses.specs.declared.response_payload.ExportResponse.{ExportResponse}
use Rattle.kmip_responses.specs.declared.response_payload.ResponsePayload.{ResponsePayload}
use Rattle.kmip_responses.specs.declared.response_payload.ResponsePayload.TheVariants as response_payload
use Rattle.kmip_objects.specs.declared.object.ManagedObject.{ManagedObject}
use Rattle.kmip_objects.specs.declared.object.ManagedObject.TheVariants as managed_object
use Rattle.kmip_responses.specs.declared.response_payload.CreateResponse.{CreateResponse}
use Rattle.kmip_responses.specs.declared.response_payload.CreateKeyPairResponse.{CreateKeyPairResponse}
use Rattle.kmip_responses.specs.declared.response_payload.RegisterResponse.{RegisterResponse}
use Rattle.kmip_responses.specs.declared.response_payload.LocateResponse.{LocateResponse}
use Rattle.kmip_responses.specs.declared.response_payload.CheckResponse.{CheckResponse}
use Rattle.kmip_responses.specs.declared.response_payload.GetAttributesResponse.{GetAttributesResponse}
use Rattle.kmip_responses.specs.declared.response_payload.GetAttributeListResponse.{GetAttributeListResponse}
use Rattle.kmip_responses.specs.declared.response_payload.AttributeResponse.{AttributeResponse}
use Rattle.kmip_responses.specs.declared.response_payload.ObtainLeaseResponse.{ObtainLeaseResponse}
use Rattle.kmip_responses.specs.declared.response_payload.ObjectResponse.{ObjectResponse}
use Rattle.kmip_responses.specs.declared.response_payload.QueryResponse.{QueryResponse}
use Rattle.kmip_responses.specs.declared.response_payload.CancelResponse.{CancelResponse}
use Rattle.kmip_responses.specs.declared.response_payload.DiscoverVersionsResponse.{DiscoverVersionsResponse}
use Rattle.kmip_responses.specs.declared.response_payload.CryptographicResponse.{CryptographicResponse}
use Rattle.kmip_responses.specs.declared.response_payload.LoginResponse.{LoginResponse}
use Rattle.kmip_ttlv_parts.specs.declared.kept.Kept.{Kept}

-- which `object` of a `GetResponse` is there, if it is exactly one
abbrev pub IsGetResponseObject : {A : Type 0} → GetResponse A → Option (ManagedObject A) → Type 0
IsGetResponseObject x None = (there x.certificate + (there x.symmetric_key + (there x.public_key + (there x.private_key + (there x.split_key + (there x.template + (there x.secret_data + there x.opaque_object)))))) ≡ 1) → ⊥
IsGetResponseObject x (Some (managed_object.Certificate inner)) = (x.certificate ≡ Some inner.now) × (x.symmetric_key ≡ None) × (x.public_key ≡ None) × (x.private_key ≡ None) × (x.split_key ≡ None) × (x.template ≡ None) × (x.secret_data ≡ None) × (x.opaque_object ≡ None)
IsGetResponseObject x (Some (managed_object.SymmetricKey inner)) = (x.certificate ≡ None) × (IsSomeAnd x.symmetric_key (λ y. y.inner.value ≡ inner.now)) × (x.public_key ≡ None) × (x.private_key ≡ None) × (x.split_key ≡ None) × (x.template ≡ None) × (x.secret_data ≡ None) × (x.opaque_object ≡ None)
IsGetResponseObject x (Some (managed_object.PublicKey inner)) = (x.certificate ≡ None) × (x.symmetric_key ≡ None) × (IsSomeAnd x.public_key (λ y. y.inner.value ≡ inner.now)) × (x.private_key ≡ None) × (x.split_key ≡ None) × (x.template ≡ None) × (x.secret_data ≡ None) × (x.opaque_object ≡ None)
IsGetResponseObject x (Some (managed_object.PrivateKey inner)) = (x.certificate ≡ None) × (x.symmetric_key ≡ None) × (x.public_key ≡ None) × (IsSomeAnd x.private_key (λ y. y.inner.value ≡ inner.now)) × (x.split_key ≡ None) × (x.template ≡ None) × (x.secret_data ≡ None) × (x.opaque_object ≡ None)
IsGetResponseObject x (Some (managed_object.SplitKey inner)) = (x.certificate ≡ None) × (x.symmetric_key ≡ None) × (x.public_key ≡ None) × (x.private_key ≡ None) × (IsSomeAnd x.split_key (λ y. y.inner.value ≡ inner.now)) × (x.template ≡ None) × (x.secret_data ≡ None) × (x.opaque_object ≡ None)
IsGetResponseObject x (Some (managed_object.Template inner)) = (x.certificate ≡ None) × (x.symmetric_key ≡ None) × (x.public_key ≡ None) × (x.private_key ≡ None) × (x.split_key ≡ None) × (x.template ≡ Some inner.now) × (x.secret_data ≡ None) × (x.opaque_object ≡ None)
IsGetResponseObject x (Some (managed_object.SecretData inner)) = (x.certificate ≡ None) × (x.symmetric_key ≡ None) × (x.public_key ≡ None) × (x.private_key ≡ None) × (x.split_key ≡ None) × (x.template ≡ None) × (IsSomeAnd x.secret_data (λ y. y.inner.value ≡ inner.now)) × (x.opaque_object ≡ None)
IsGetResponseObject x (Some (managed_object.OpaqueObject inner)) = (x.certificate ≡ None) × (x.symmetric_key ≡ None) × (x.public_key ≡ None) × (x.private_key ≡ None) × (x.split_key ≡ None) × (x.template ≡ None) × (x.secret_data ≡ None) × (x.opaque_object ≡ Some inner.now)

-- which `object` of a `ExportResponse` is there, if it is exactly one
abbrev pub IsExportResponseObject : {A : Type 0} → ExportResponse A → Option (ManagedObject A) → Type 0
IsExportResponseObject x None = (there x.certificate + (there x.symmetric_key + (there x.public_key + (there x.private_key + (there x.split_key + (there x.template + (there x.secret_data + there x.opaque_object)))))) ≡ 1) → ⊥
IsExportResponseObject x (Some (managed_object.Certificate inner)) = (x.certificate ≡ Some inner.now) × (x.symmetric_key ≡ None) × (x.public_key ≡ None) × (x.private_key ≡ None) × (x.split_key ≡ None) × (x.template ≡ None) × (x.secret_data ≡ None) × (x.opaque_object ≡ None)
IsExportResponseObject x (Some (managed_object.SymmetricKey inner)) = (x.certificate ≡ None) × (IsSomeAnd x.symmetric_key (λ y. y.inner.value ≡ inner.now)) × (x.public_key ≡ None) × (x.private_key ≡ None) × (x.split_key ≡ None) × (x.template ≡ None) × (x.secret_data ≡ None) × (x.opaque_object ≡ None)
IsExportResponseObject x (Some (managed_object.PublicKey inner)) = (x.certificate ≡ None) × (x.symmetric_key ≡ None) × (IsSomeAnd x.public_key (λ y. y.inner.value ≡ inner.now)) × (x.private_key ≡ None) × (x.split_key ≡ None) × (x.template ≡ None) × (x.secret_data ≡ None) × (x.opaque_object ≡ None)
IsExportResponseObject x (Some (managed_object.PrivateKey inner)) = (x.certificate ≡ None) × (x.symmetric_key ≡ None) × (x.public_key ≡ None) × (IsSomeAnd x.private_key (λ y. y.inner.value ≡ inner.now)) × (x.split_key ≡ None) × (x.template ≡ None) × (x.secret_data ≡ None) × (x.opaque_object ≡ None)
IsExportResponseObject x (Some (managed_object.SplitKey inner)) = (x.certificate ≡ None) × (x.symmetric_key ≡ None) × (x.public_key ≡ None) × (x.private_key ≡ None) × (IsSomeAnd x.split_key (λ y. y.inner.value ≡ inner.now)) × (x.template ≡ None) × (x.secret_data ≡ None) × (x.opaque_object ≡ None)
IsExportResponseObject x (Some (managed_object.Template inner)) = (x.certificate ≡ None) × (x.symmetric_key ≡ None) × (x.public_key ≡ None) × (x.private_key ≡ None) × (x.split_key ≡ None) × (x.template ≡ Some inner.now) × (x.secret_data ≡ None) × (x.opaque_object ≡ None)
IsExportResponseObject x (Some (managed_object.SecretData inner)) = (x.certificate ≡ None) × (x.symmetric_key ≡ None) × (x.public_key ≡ None) × (x.private_key ≡ None) × (x.split_key ≡ None) × (x.template ≡ None) × (IsSomeAnd x.secret_data (λ y. y.inner.value ≡ inner.now)) × (x.opaque_object ≡ None)
IsExportResponseObject x (Some (managed_object.OpaqueObject inner)) = (x.certificate ≡ None) × (x.symmetric_key ≡ None) × (x.public_key ≡ None) × (x.private_key ≡ None) × (x.split_key ≡ None) × (x.template ≡ None) × (x.secret_data ≡ None) × (x.opaque_object ≡ Some inner.now)

-- the texts of 42005C that choose a variant of a `ResponsePayload` whatever the type of its item is
abbrev pub response_payload_names : List (List ℕ)
response_payload_names =
    codes "0x00000001" ∷
    codes "0x00000002" ∷
    codes "0x00000003" ∷
    codes "0x00000004" ∷
    codes "0x00000005" ∷
    codes "0x00000008" ∷
    codes "0x00000009" ∷
    codes "0x0000000A" ∷
    codes "0x0000000B" ∷
    codes "0x0000000C" ∷
    codes "0x0000000D" ∷
    codes "0x0000000E" ∷
    codes "0x0000000F" ∷
    codes "0x00000010" ∷
    codes "0x00000011" ∷
    codes "0x00000012" ∷
    codes "0x00000013" ∷
    codes "0x00000014" ∷
    codes "0x00000015" ∷
    codes "0x00000016" ∷
    codes "0x00000018" ∷
    codes "0x00000019" ∷
    codes "0x0000001D" ∷
    codes "0x0000001E" ∷
    codes "0x0000001F" ∷
    codes "0x00000020" ∷
    codes "0x00000021" ∷
    codes "0x00000022" ∷
    codes "0x00000023" ∷
    codes "0x00000024" ∷
    codes "0x00000027" ∷
    codes "0x0000002A" ∷
    codes "0x0000002B" ∷
    codes "0x0000002D" ∷
    []

-- what is said, if it is the text of 42005C, chooses what is in a `ResponsePayload`
abbrev pub ChoosesResponsePayload : {A : Type 0} → List ℕ → ResponsePayload A → Type 0
ChoosesResponsePayload said (response_payload.Create x) = (said ≡ codes "0x00000001")
ChoosesResponsePayload said (response_payload.CreateKeyPair x) = (said ≡ codes "0x00000002")
ChoosesResponsePayload said (response_payload.Register x) = (said ≡ codes "0x00000003")
ChoosesResponsePayload said (response_payload.ReKey x) = (said ≡ codes "0x00000004")
ChoosesResponsePayload said (response_payload.DeriveKey x) = (said ≡ codes "0x00000005")
ChoosesResponsePayload said (response_payload.Locate x) = (said ≡ codes "0x00000008")
ChoosesResponsePayload said (response_payload.Check x) = (said ≡ codes "0x00000009")
ChoosesResponsePayload said (response_payload.Get x) = (said ≡ codes "0x0000000A")
ChoosesResponsePayload said (response_payload.GetAttributes x) = (said ≡ codes "0x0000000B")
ChoosesResponsePayload said (response_payload.GetAttributeList x) = (said ≡ codes "0x0000000C")
ChoosesResponsePayload said (response_payload.AddAttribute x) = (said ≡ codes "0x0000000D")
ChoosesResponsePayload said (response_payload.ModifyAttribute x) = (said ≡ codes "0x0000000E")
ChoosesResponsePayload said (response_payload.DeleteAttribute x) = (said ≡ codes "0x0000000F")
ChoosesResponsePayload said (response_payload.ObtainLease x) = (said ≡ codes "0x00000010")
ChoosesResponsePayload said (response_payload.GetUsageAllocation x) = (said ≡ codes "0x00000011")
ChoosesResponsePayload said (response_payload.Activate x) = (said ≡ codes "0x00000012")
ChoosesResponsePayload said (response_payload.Revoke x) = (said ≡ codes "0x00000013")
ChoosesResponsePayload said (response_payload.Destroy x) = (said ≡ codes "0x00000014")
ChoosesResponsePayload said (response_payload.Archive x) = (said ≡ codes "0x00000015")
ChoosesResponsePayload said (response_payload.Recover x) = (said ≡ codes "0x00000016")
ChoosesResponsePayload said (response_payload.Query x) = (said ≡ codes "0x00000018")
ChoosesResponsePayload said (response_payload.Cancel x) = (said ≡ codes "0x00000019")
ChoosesResponsePayload said (response_payload.ReKeyKeyPair x) = (said ≡ codes "0x0000001D")
ChoosesResponsePayload said (response_payload.DiscoverVersions x) = (said ≡ codes "0x0000001E")
ChoosesResponsePayload said (response_payload.Encrypt x) = (said ≡ codes "0x0000001F")
ChoosesResponsePayload said (response_payload.Decrypt x) = (said ≡ codes "0x00000020")
ChoosesResponsePayload said (response_payload.Sign x) = (said ≡ codes "0x00000021")
ChoosesResponsePayload said (response_payload.SignatureVerify x) = (said ≡ codes "0x00000022")
ChoosesResponsePayload said (response_payload.Mac x) = (said ≡ codes "0x00000023")
ChoosesResponsePayload said (response_payload.MacVerify x) = (said ≡ codes "0x00000024")
ChoosesResponsePayload said (response_payload.Hash x) = (said ≡ codes "0x00000027")
ChoosesResponsePayload said (response_payload.Import x) = (said ≡ codes "0x0000002A")
ChoosesResponsePayload said (response_payload.Export x) = (said ≡ codes "0x0000002B")
ChoosesResponsePayload said (response_payload.Login x) = (said ≡ codes "0x0000002D")
ChoosesResponsePayload said (response_payload.Other x) = IsNoneOf said response_payload_names

-- what each thing means that a `ResponsePayload` may hold
pub record ResponsePayloadCases (A : Type 0) : Type 1 where
  pub create : CreateResponse A → Meaning
  pub create_key_pair : Boxed (CreateKeyPairResponse A) A → Meaning
  pub register : RegisterResponse A → Meaning
  pub re_key : RegisterResponse A → Meaning
  pub derive_key : RegisterResponse A → Meaning
  pub locate : LocateResponse A → Meaning
  pub check : CheckResponse A → Meaning
  pub get : Boxed (GetResponse A) A → Meaning
  pub get_attributes : GetAttributesResponse A → Meaning
  pub get_attribute_list : GetAttributeListResponse A → Meaning
  pub add_attribute : Boxed (AttributeResponse A) A → Meaning
  pub modify_attribute : Boxed (AttributeResponse A) A → Meaning
  pub delete_attribute : Boxed (AttributeResponse A) A → Meaning
  pub obtain_lease : ObtainLeaseResponse A → Meaning
  pub get_usage_allocation : ObjectResponse A → Meaning
  pub activate : ObjectResponse A → Meaning
  pub revoke : ObjectResponse A → Meaning
  pub destroy : ObjectResponse A → Meaning
  pub archive : ObjectResponse A → Meaning
  pub recover : ObjectResponse A → Meaning
  pub query : Boxed (QueryResponse A) A → Meaning
  pub cancel : CancelResponse A → Meaning
  pub re_key_key_pair : Boxed (CreateKeyPairResponse A) A → Meaning
  pub discover_versions : DiscoverVersionsResponse A → Meaning
  pub encrypt : Boxed (CryptographicResponse A) A → Meaning
  pub decrypt : Boxed (CryptographicResponse A) A → Meaning
  pub sign : Boxed (CryptographicResponse A) A → Meaning
  pub signature_verify : Boxed (CryptographicResponse A) A → Meaning
  pub mac : Boxed (CryptographicResponse A) A → Meaning
  pub mac_verify : Boxed (CryptographicResponse A) A → Meaning
  pub hash : Boxed (CryptographicResponse A) A → Meaning
  pub import : ObjectResponse A → Meaning
  pub export : Boxed (ExportResponse A) A → Meaning
  pub login : LoginResponse A → Meaning
  pub other : Kept A → Meaning

-- what it means
unfoldable pub response_payload_by : {A : Type 0} → ResponsePayloadCases A → ResponsePayload A → Meaning
response_payload_by f (response_payload.Create x) = f.create x
response_payload_by f (response_payload.CreateKeyPair x) = f.create_key_pair x
response_payload_by f (response_payload.Register x) = f.register x
response_payload_by f (response_payload.ReKey x) = f.re_key x
response_payload_by f (response_payload.DeriveKey x) = f.derive_key x
response_payload_by f (response_payload.Locate x) = f.locate x
response_payload_by f (response_payload.Check x) = f.check x
response_payload_by f (response_payload.Get x) = f.get x
response_payload_by f (response_payload.GetAttributes x) = f.get_attributes x
response_payload_by f (response_payload.GetAttributeList x) = f.get_attribute_list x
response_payload_by f (response_payload.AddAttribute x) = f.add_attribute x
response_payload_by f (response_payload.ModifyAttribute x) = f.modify_attribute x
response_payload_by f (response_payload.DeleteAttribute x) = f.delete_attribute x
response_payload_by f (response_payload.ObtainLease x) = f.obtain_lease x
response_payload_by f (response_payload.GetUsageAllocation x) = f.get_usage_allocation x
response_payload_by f (response_payload.Activate x) = f.activate x
response_payload_by f (response_payload.Revoke x) = f.revoke x
response_payload_by f (response_payload.Destroy x) = f.destroy x
response_payload_by f (response_payload.Archive x) = f.archive x
response_payload_by f (response_payload.Recover x) = f.recover x
response_payload_by f (response_payload.Query x) = f.query x
response_payload_by f (response_payload.Cancel x) = f.cancel x
response_payload_by f (response_payload.ReKeyKeyPair x) = f.re_key_key_pair x
response_payload_by f (response_payload.DiscoverVersions x) = f.discover_versions x
response_payload_by f (response_payload.Encrypt x) = f.encrypt x
response_payload_by f (response_payload.Decrypt x) = f.decrypt x
response_payload_by f (response_payload.Sign x) = f.sign x
response_payload_by f (response_payload.SignatureVerify x) = f.signature_verify x
response_payload_by f (response_payload.Mac x) = f.mac x
response_payload_by f (response_payload.MacVerify x) = f.mac_verify x
response_payload_by f (response_payload.Hash x) = f.hash x
response_payload_by f (response_payload.Import x) = f.import x
response_payload_by f (response_payload.Export x) = f.export x
response_payload_by f (response_payload.Login x) = f.login x
response_payload_by f (response_payload.Other x) = f.other x

-- what a `ResponsePayload` may hold
pub record ResponsePayloadItems (A : Type 0) (eq : ResponsePayload A → ResponsePayload A → Boole) : Type 1 where
  pub create : Held 0x42007C types.Structure response_payload.Create eq
  pub create_key_pair : Held 0x42007C types.Structure response_payload.CreateKeyPair eq
  pub register : Held 0x42007C types.Structure response_payload.Register eq
  pub re_key : Held 0x42007C types.Structure response_payload.ReKey eq
  pub derive_key : Held 0x42007C types.Structure response_payload.DeriveKey eq
  pub locate : Held 0x42007C types.Structure response_payload.Locate eq
  pub check : Held 0x42007C types.Structure response_payload.Check eq
  pub get : Held 0x42007C types.Structure response_payload.Get eq
  pub get_attributes : Held 0x42007C types.Structure response_payload.GetAttributes eq
  pub get_attribute_list : Held 0x42007C types.Structure response_payload.GetAttributeList eq
  pub add_attribute : Held 0x42007C types.Structure response_payload.AddAttribute eq
  pub modify_attribute : Held 0x42007C types.Structure response_payload.ModifyAttribute eq
  pub delete_attribute : Held 0x42007C types.Structure response_payload.DeleteAttribute eq
  pub obtain_lease : Held 0x42007C types.Structure response_payload.ObtainLease eq
  pub get_usage_allocation : Held 0x42007C types.Structure response_payload.GetUsageAllocation eq
  pub activate : Held 0x42007C types.Structure response_payload.Activate eq
  pub revoke : Held 0x42007C types.Structure response_payload.Revoke eq
  pub destroy : Held 0x42007C types.Structure response_payload.Destroy eq
  pub archive : Held 0x42007C types.Structure response_payload.Archive eq
  pub recover : Held 0x42007C types.Structure response_payload.Recover eq
  pub query : Held 0x42007C types.Structure response_payload.Query eq
  pub cancel : Held 0x42007C types.Structure response_payload.Cancel eq
  pub re_key_key_pair : Held 0x42007C types.Structure response_payload.ReKeyKeyPair eq
  pub discover_versions : Held 0x42007C types.Structure response_payload.DiscoverVersions eq
  pub encrypt : Held 0x42007C types.Structure response_payload.Encrypt eq
  pub decrypt : Held 0x42007C types.Structure response_payload.Decrypt eq
  pub sign : Held 0x42007C types.Structure response_payload.Sign eq
  pub signature_verify : Held 0x42007C types.Structure response_payload.SignatureVerify eq
  pub mac : Held 0x42007C types.Structure response_payload.Mac eq
  pub mac_verify : Held 0x42007C types.Structure response_payload.MacVerify eq
  pub hash : Held 0x42007C types.Structure response_payload.Hash eq
  pub import : Held 0x42007C types.Structure response_payload.Import eq
  pub export : Held 0x42007C types.Structure response_payload.Export eq
  pub login : Held 0x42007C types.Structure response_payload.Login eq
  pub other : Held 0x42007C types.Structure response_payload.Other eq

-- its variants, by their rules
abbrev pub response_payload_variants : {A : Type 0} {eq : ResponsePayload A → ResponsePayload A → Boole} → ResponsePayloadItems A eq → Variants
response_payload_variants i =
    variant (codes "if 0x42005C==0x00000001") (wrapped i.create.form) (
    variant (codes "if 0x42005C==0x00000002") (wrapped i.create_key_pair.form) (
    variant (codes "if 0x42005C==0x00000003") (wrapped i.register.form) (
    variant (codes "if 0x42005C==0x00000004") (wrapped i.re_key.form) (
    variant (codes "if 0x42005C==0x00000005") (wrapped i.derive_key.form) (
    variant (codes "if 0x42005C==0x00000008") (wrapped i.locate.form) (
    variant (codes "if 0x42005C==0x00000009") (wrapped i.check.form) (
    variant (codes "if 0x42005C==0x0000000A") (wrapped i.get.form) (
    variant (codes "if 0x42005C==0x0000000B") (wrapped i.get_attributes.form) (
    variant (codes "if 0x42005C==0x0000000C") (wrapped i.get_attribute_list.form) (
    variant (codes "if 0x42005C==0x0000000D") (wrapped i.add_attribute.form) (
    variant (codes "if 0x42005C==0x0000000E") (wrapped i.modify_attribute.form) (
    variant (codes "if 0x42005C==0x0000000F") (wrapped i.delete_attribute.form) (
    variant (codes "if 0x42005C==0x00000010") (wrapped i.obtain_lease.form) (
    variant (codes "if 0x42005C==0x00000011") (wrapped i.get_usage_allocation.form) (
    variant (codes "if 0x42005C==0x00000012") (wrapped i.activate.form) (
    variant (codes "if 0x42005C==0x00000013") (wrapped i.revoke.form) (
    variant (codes "if 0x42005C==0x00000014") (wrapped i.destroy.form) (
    variant (codes "if 0x42005C==0x00000015") (wrapped i.archive.form) (
    variant (codes "if 0x42005C==0x00000016") (wrapped i.recover.form) (
    variant (codes "if 0x42005C==0x00000018") (wrapped i.query.form) (
    variant (codes "if 0x42005C==0x00000019") (wrapped i.cancel.form) (
    variant (codes "if 0x42005C==0x0000001D") (wrapped i.re_key_key_pair.form) (
    variant (codes "if 0x42005C==0x0000001E") (wrapped i.discover_versions.form) (
    variant (codes "if 0x42005C==0x0000001F") (wrapped i.encrypt.form) (
    variant (codes "if 0x42005C==0x00000020") (wrapped i.decrypt.form) (
    variant (codes "if 0x42005C==0x00000021") (wrapped i.sign.form) (
    variant (codes "if 0x42005C==0x00000022") (wrapped i.signature_verify.form) (
    variant (codes "if 0x42005C==0x00000023") (wrapped i.mac.form) (
    variant (codes "if 0x42005C==0x00000024") (wrapped i.mac_verify.form) (
    variant (codes "if 0x42005C==0x00000027") (wrapped i.hash.form) (
    variant (codes "if 0x42005C==0x0000002A") (wrapped i.import.form) (
    variant (codes "if 0x42005C==0x0000002B") (wrapped i.export.form) (
    variant (codes "if 0x42005C==0x0000002D") (wrapped i.login.form) (
    variant (codes "if type==Structure") (wrapped i.other.form) no_variants))))))))))))))))))))))))))))))))))

abbrev pub response_payload_cases : {A : Type 0} {eq : ResponsePayload A → ResponsePayload A → Boole} → ResponsePayloadItems A eq → ResponsePayloadCases A
response_payload_cases i = record {
  create = as_item (codes "payload") (codes "if 0x42005C==0x00000001") i.create;
  create_key_pair = as_item (codes "payload") (codes "if 0x42005C==0x00000002") i.create_key_pair;
  register = as_item (codes "payload") (codes "if 0x42005C==0x00000003") i.register;
  re_key = as_item (codes "payload") (codes "if 0x42005C==0x00000004") i.re_key;
  derive_key = as_item (codes "payload") (codes "if 0x42005C==0x00000005") i.derive_key;
  locate = as_item (codes "payload") (codes "if 0x42005C==0x00000008") i.locate;
  check = as_item (codes "payload") (codes "if 0x42005C==0x00000009") i.check;
  get = as_item (codes "payload") (codes "if 0x42005C==0x0000000A") i.get;
  get_attributes = as_item (codes "payload") (codes "if 0x42005C==0x0000000B") i.get_attributes;
  get_attribute_list = as_item (codes "payload") (codes "if 0x42005C==0x0000000C") i.get_attribute_list;
  add_attribute = as_item (codes "payload") (codes "if 0x42005C==0x0000000D") i.add_attribute;
  modify_attribute = as_item (codes "payload") (codes "if 0x42005C==0x0000000E") i.modify_attribute;
  delete_attribute = as_item (codes "payload") (codes "if 0x42005C==0x0000000F") i.delete_attribute;
  obtain_lease = as_item (codes "payload") (codes "if 0x42005C==0x00000010") i.obtain_lease;
  get_usage_allocation = as_item (codes "payload") (codes "if 0x42005C==0x00000011") i.get_usage_allocation;
  activate = as_item (codes "payload") (codes "if 0x42005C==0x00000012") i.activate;
  revoke = as_item (codes "payload") (codes "if 0x42005C==0x00000013") i.revoke;
  destroy = as_item (codes "payload") (codes "if 0x42005C==0x00000014") i.destroy;
  archive = as_item (codes "payload") (codes "if 0x42005C==0x00000015") i.archive;
  recover = as_item (codes "payload") (codes "if 0x42005C==0x00000016") i.recover;
  query = as_item (codes "payload") (codes "if 0x42005C==0x00000018") i.query;
  cancel = as_item (codes "payload") (codes "if 0x42005C==0x00000019") i.cancel;
  re_key_key_pair = as_item (codes "payload") (codes "if 0x42005C==0x0000001D") i.re_key_key_pair;
  discover_versions = as_item (codes "payload") (codes "if 0x42005C==0x0000001E") i.discover_versions;
  encrypt = as_item (codes "payload") (codes "if 0x42005C==0x0000001F") i.encrypt;
  decrypt = as_item (codes "payload") (codes "if 0x42005C==0x00000020") i.decrypt;
  sign = as_item (codes "payload") (codes "if 0x42005C==0x00000021") i.sign;
  signature_verify = as_item (codes "payload") (codes "if 0x42005C==0x00000022") i.signature_verify;
  mac = as_item (codes "payload") (codes "if 0x42005C==0x00000023") i.mac;
  mac_verify = as_item (codes "payload") (codes "if 0x42005C==0x00000024") i.mac_verify;
  hash = as_item (codes "payload") (codes "if 0x42005C==0x00000027") i.hash;
  import = as_item (codes "payload") (codes "if 0x42005C==0x0000002A") i.import;
  export = as_item (codes "payload") (codes "if 0x42005C==0x0000002B") i.export;
  login = as_item (codes "payload") (codes "if 0x42005C==0x0000002D") i.login;
  other = as_item (codes "payload") (codes "if type==Structure") i.other;
}

-- the texts of 42005C that its rules ask for
abbrev pub response_payload_texts : List (List (List ℕ))
response_payload_texts =
    (codes "0x00000001" ∷ []) ∷
    (codes "0x00000002" ∷ []) ∷
    (codes "0x00000003" ∷ []) ∷
    (codes "0x00000004" ∷ []) ∷
    (codes "0x00000005" ∷ []) ∷
    (codes "0x00000008" ∷ []) ∷
    (codes "0x00000009" ∷ []) ∷
    (codes "0x0000000A" ∷ []) ∷
    (codes "0x0000000B" ∷ []) ∷
    (codes "0x0000000C" ∷ []) ∷
    (codes "0x0000000D" ∷ []) ∷
    (codes "0x0000000E" ∷ []) ∷
    (codes "0x0000000F" ∷ []) ∷
    (codes "0x00000010" ∷ []) ∷
    (codes "0x00000011" ∷ []) ∷
    (codes "0x00000012" ∷ []) ∷
    (codes "0x00000013" ∷ []) ∷
    (codes "0x00000014" ∷ []) ∷
    (codes "0x00000015" ∷ []) ∷
    (codes "0x00000016" ∷ []) ∷
    (codes "0x00000018" ∷ []) ∷
    (codes "0x00000019" ∷ []) ∷
    (codes "0x0000001D" ∷ []) ∷
    (codes "0x0000001E" ∷ []) ∷
    (codes "0x0000001F" ∷ []) ∷
    (codes "0x00000020" ∷ []) ∷
    (codes "0x00000021" ∷ []) ∷
    (codes "0x00000022" ∷ []) ∷
    (codes "0x00000023" ∷ []) ∷
    (codes "0x00000024" ∷ []) ∷
    (codes "0x00000027" ∷ []) ∷
    (codes "0x0000002A" ∷ []) ∷
    (codes "0x0000002B" ∷ []) ∷
    (codes "0x0000002D" ∷ []) ∷
    []

response_payload_begins : {A : Type 0} {eq : ResponsePayload A → ResponsePayload A → Boole} (i : ResponsePayloadItems A eq) → BeginsBy 0x42005C response_payload_texts (response_payload_variants i) (variant (codes "if type==Structure") (wrapped i.other.form) no_variants)
unfolding parts_of
response_payload_begins i = record { all = (refl, (refl, (refl, (refl, (refl, (refl, (refl, (refl, (refl, (refl, (refl, (refl, (refl, (refl, (refl, (refl, (refl, (refl, (refl, (refl, (refl, (refl, (refl, (refl, (refl, (refl, (refl, (refl, (refl, (refl, (refl, (refl, (refl, (refl, refl)))))))))))))))))))))))))))))))))) }

pub response_payload_case : {A : Type 0} {eq : ResponsePayload A → ResponsePayload A → Boole} (i : ResponsePayloadItems A eq) (x : ResponsePayload A)
    → Case 0x42007C 0x42005C types.Structure (enum (codes "payload") (response_payload_variants i)) (λ said. ChoosesResponsePayload said x) (response_payload_by (response_payload_cases i) x)
unfolding tag_of number rule sides equal at_least member in_brackets trim_end chars trim_start encode response_payload_by
response_payload_case i (response_payload.Create x) = case_of i.create x (is_there _ 0 refl) (λ said chooses. chosen_by_text types.Structure (response_payload_begins i) chooses refl)
response_payload_case i (response_payload.CreateKeyPair x) = case_of i.create_key_pair x (is_there _ 1 refl) (λ said chooses. chosen_by_text types.Structure (response_payload_begins i) chooses refl)
response_payload_case i (response_payload.Register x) = case_of i.register x (is_there _ 2 refl) (λ said chooses. chosen_by_text types.Structure (response_payload_begins i) chooses refl)
response_payload_case i (response_payload.ReKey x) = case_of i.re_key x (is_there _ 3 refl) (λ said chooses. chosen_by_text types.Structure (response_payload_begins i) chooses refl)
response_payload_case i (response_payload.DeriveKey x) = case_of i.derive_key x (is_there _ 4 refl) (λ said chooses. chosen_by_text types.Structure (response_payload_begins i) chooses refl)
response_payload_case i (response_payload.Locate x) = case_of i.locate x (is_there _ 5 refl) (λ said chooses. chosen_by_text types.Structure (response_payload_begins i) chooses refl)
response_payload_case i (response_payload.Check x) = case_of i.check x (is_there _ 6 refl) (λ said chooses. chosen_by_text types.Structure (response_payload_begins i) chooses refl)
response_payload_case i (response_payload.Get x) = case_of i.get x (is_there _ 7 refl) (λ said chooses. chosen_by_text types.Structure (response_payload_begins i) chooses refl)
response_payload_case i (response_payload.GetAttributes x) = case_of i.get_attributes x (is_there _ 8 refl) (λ said chooses. chosen_by_text types.Structure (response_payload_begins i) chooses refl)
response_payload_case i (response_payload.GetAttributeList x) = case_of i.get_attribute_list x (is_there _ 9 refl) (λ said chooses. chosen_by_text types.Structure (response_payload_begins i) chooses refl)
response_payload_case i (response_payload.AddAttribute x) = case_of i.add_attribute x (is_there _ 10 refl) (λ said chooses. chosen_by_text types.Structure (response_payload_begins i) chooses refl)
response_payload_case i (response_payload.ModifyAttribute x) = case_of i.modify_attribute x (is_there _ 11 refl) (λ said chooses. chosen_by_text types.Structure (response_payload_begins i) chooses refl)
response_payload_case i (response_payload.DeleteAttribute x) = case_of i.delete_attribute x (is_there _ 12 refl) (λ said chooses. chosen_by_text types.Structure (response_payload_begins i) chooses refl)
response_payload_case i (response_payload.ObtainLease x) = case_of i.obtain_lease x (is_there _ 13 refl) (λ said chooses. chosen_by_text types.Structure (response_payload_begins i) chooses refl)
response_payload_case i (response_payload.GetUsageAllocation x) = case_of i.get_usage_allocation x (is_there _ 14 refl) (λ said chooses. chosen_by_text types.Structure (response_payload_begins i) chooses refl)
response_payload_case i (response_payload.Activate x) = case_of i.activate x (is_there _ 15 refl) (λ said chooses. chosen_by_text types.Structure (response_payload_begins i) chooses refl)
response_payload_case i (response_payload.Revoke x) = case_of i.revoke x (is_there _ 16 refl) (λ said chooses. chosen_by_text types.Structure (response_payload_begins i) chooses refl)
response_payload_case i (response_payload.Destroy x) = case_of i.destroy x (is_there _ 17 refl) (λ said chooses. chosen_by_text types.Structure (response_payload_begins i) chooses refl)
response_payload_case i (response_payload.Archive x) = case_of i.archive x (is_there _ 18 refl) (λ said chooses. chosen_by_text types.Structure (response_payload_begins i) chooses refl)
response_payload_case i (response_payload.Recover x) = case_of i.recover x (is_there _ 19 refl) (λ said chooses. chosen_by_text types.Structure (response_payload_begins i) chooses refl)
response_payload_case i (response_payload.Query x) = case_of i.query x (is_there _ 20 refl) (λ said chooses. chosen_by_text types.Structure (response_payload_begins i) chooses refl)
response_payload_case i (response_payload.Cancel x) = case_of i.cancel x (is_there _ 21 refl) (λ said chooses. chosen_by_text types.Structure (response_payload_begins i) chooses refl)
response_payload_case i (response_payload.ReKeyKeyPair x) = case_of i.re_key_key_pair x (is_there _ 22 refl) (λ said chooses. chosen_by_text types.Structure (response_payload_begins i) chooses refl)
response_payload_case i (response_payload.DiscoverVersions x) = case_of i.discover_versions x (is_there _ 23 refl) (λ said chooses. chosen_by_text types.Structure (response_payload_begins i) chooses refl)
response_payload_case i (response_payload.Encrypt x) = case_of i.encrypt x (is_there _ 24 refl) (λ said chooses. chosen_by_text types.Structure (response_payload_begins i) chooses refl)
response_payload_case i (response_payload.Decrypt x) = case_of i.decrypt x (is_there _ 25 refl) (λ said chooses. chosen_by_text types.Structure (response_payload_begins i) chooses refl)
response_payload_case i (response_payload.Sign x) = case_of i.sign x (is_there _ 26 refl) (λ said chooses. chosen_by_text types.Structure (response_payload_begins i) chooses refl)
response_payload_case i (response_payload.SignatureVerify x) = case_of i.signature_verify x (is_there _ 27 refl) (λ said chooses. chosen_by_text types.Structure (response_payload_begins i) chooses refl)
response_payload_case i (response_payload.Mac x) = case_of i.mac x (is_there _ 28 refl) (λ said chooses. chosen_by_text types.Structure (response_payload_begins i) chooses refl)
response_payload_case i (response_payload.MacVerify x) = case_of i.mac_verify x (is_there _ 29 refl) (λ said chooses. chosen_by_text types.Structure (response_payload_begins i) chooses refl)
response_payload_case i (response_payload.Hash x) = case_of i.hash x (is_there _ 30 refl) (λ said chooses. chosen_by_text types.Structure (response_payload_begins i) chooses refl)
response_payload_case i (response_payload.Import x) = case_of i.import x (is_there _ 31 refl) (λ said chooses. chosen_by_text types.Structure (response_payload_begins i) chooses refl)
response_payload_case i (response_payload.Export x) = case_of i.export x (is_there _ 32 refl) (λ said chooses. chosen_by_text types.Structure (response_payload_begins i) chooses refl)
response_payload_case i (response_payload.Login x) = case_of i.login x (is_there _ 33 refl) (λ said chooses. chosen_by_text types.Structure (response_payload_begins i) chooses refl)
response_payload_case i (response_payload.Other x) = case_of i.other x (is_there _ 34 refl) (λ said none. chosen_by_others types.Structure (response_payload_begins i) none)

pub response_payload_same : {A : Type 0} {eq : ResponsePayload A → ResponsePayload A → Boole} (i : ResponsePayloadItems A eq) (x y : ResponsePayload A)
    → (response_payload_by (response_payload_cases i) x).value ≡ (response_payload_by (response_payload_cases i) y).value
    → eq x y ≡ true
unfolding response_payload_by
response_payload_same i (response_payload.Create x) (response_payload.Create y) e = i.create.same x y (i.create.rules.same x y (in_variant e))
response_payload_same i (response_payload.CreateKeyPair x) (response_payload.CreateKeyPair y) e = i.create_key_pair.same x y (i.create_key_pair.rules.same x y (in_variant e))
response_payload_same i (response_payload.Register x) (response_payload.Register y) e = i.register.same x y (i.register.rules.same x y (in_variant e))
response_payload_same i (response_payload.ReKey x) (response_payload.ReKey y) e = i.re_key.same x y (i.re_key.rules.same x y (in_variant e))
response_payload_same i (response_payload.DeriveKey x) (response_payload.DeriveKey y) e = i.derive_key.same x y (i.derive_key.rules.same x y (in_variant e))
response_payload_same i (response_payload.Locate x) (response_payload.Locate y) e = i.locate.same x y (i.locate.rules.same x y (in_variant e))
response_payload_same i (response_payload.Check x) (response_payload.Check y) e = i.check.same x y (i.check.rules.same x y (in_variant e))
response_payload_same i (response_payload.Get x) (response_payload.Get y) e = i.get.same x y (i.get.rules.same x y (in_variant e))
response_payload_same i (response_payload.GetAttributes x) (response_payload.GetAttributes y) e = i.get_attributes.same x y (i.get_attributes.rules.same x y (in_variant e))
response_payload_same i (response_payload.GetAttributeList x) (response_payload.GetAttributeList y) e = i.get_attribute_list.same x y (i.get_attribute_list.rules.same x y (in_variant e))
response_payload_same i (response_payload.AddAttribute x) (response_payload.AddAttribute y) e = i.add_attribute.same x y (i.add_attribute.rules.same x y (in_variant e))
response_payload_same i (response_payload.ModifyAttribute x) (response_payload.ModifyAttribute y) e = i.modify_attribute.same x y (i.modify_attribute.rules.same x y (in_variant e))
response_payload_same i (response_payload.DeleteAttribute x) (response_payload.DeleteAttribute y) e = i.delete_attribute.same x y (i.delete_attribute.rules.same x y (in_variant e))
response_payload_same i (response_payload.ObtainLease x) (response_payload.ObtainLease y) e = i.obtain_lease.same x y (i.obtain_lease.rules.same x y (in_variant e))
response_payload_same i (response_payload.GetUsageAllocation x) (response_payload.GetUsageAllocation y) e = i.get_usage_allocation.same x y (i.get_usage_allocation.rules.same x y (in_variant e))
response_payload_same i (response_payload.Activate x) (response_payload.Activate y) e = i.activate.same x y (i.activate.rules.same x y (in_variant e))
response_payload_same i (response_payload.Revoke x) (response_payload.Revoke y) e = i.revoke.same x y (i.revoke.rules.same x y (in_variant e))
response_payload_same i (response_payload.Destroy x) (response_payload.Destroy y) e = i.destroy.same x y (i.destroy.rules.same x y (in_variant e))
response_payload_same i (response_payload.Archive x) (response_payload.Archive y) e = i.archive.same x y (i.archive.rules.same x y (in_variant e))
response_payload_same i (response_payload.Recover x) (response_payload.Recover y) e = i.recover.same x y (i.recover.rules.same x y (in_variant e))
response_payload_same i (response_payload.Query x) (response_payload.Query y) e = i.query.same x y (i.query.rules.same x y (in_variant e))
response_payload_same i (response_payload.Cancel x) (response_payload.Cancel y) e = i.cancel.same x y (i.cancel.rules.same x y (in_variant e))
response_payload_same i (response_payload.ReKeyKeyPair x) (response_payload.ReKeyKeyPair y) e = i.re_key_key_pair.same x y (i.re_key_key_pair.rules.same x y (in_variant e))
response_payload_same i (response_payload.DiscoverVersions x) (response_payload.DiscoverVersions y) e = i.discover_versions.same x y (i.discover_versions.rules.same x y (in_variant e))
response_payload_same i (response_payload.Encrypt x) (response_payload.Encrypt y) e = i.encrypt.same x y (i.encrypt.rules.same x y (in_variant e))
response_payload_same i (response_payload.Decrypt x) (response_payload.Decrypt y) e = i.decrypt.same x y (i.decrypt.rules.same x y (in_variant e))
response_payload_same i (response_payload.Sign x) (response_payload.Sign y) e = i.sign.same x y (i.sign.rules.same x y (in_variant e))
response_payload_same i (response_payload.SignatureVerify x) (response_payload.SignatureVerify y) e = i.signature_verify.same x y (i.signature_verify.rules.same x y (in_variant e))
response_payload_same i (response_payload.Mac x) (response_payload.Mac y) e = i.mac.same x y (i.mac.rules.same x y (in_variant e))
response_payload_same i (response_payload.MacVerify x) (response_payload.MacVerify y) e = i.mac_verify.same x y (i.mac_verify.rules.same x y (in_variant e))
response_payload_same i (response_payload.Hash x) (response_payload.Hash y) e = i.hash.same x y (i.hash.rules.same x y (in_variant e))
response_payload_same i (response_payload.Import x) (response_payload.Import y) e = i.import.same x y (i.import.rules.same x y (in_variant e))
response_payload_same i (response_payload.Export x) (response_payload.Export y) e = i.export.same x y (i.export.rules.same x y (in_variant e))
response_payload_same i (response_payload.Login x) (response_payload.Login y) e = i.login.same x y (i.login.rules.same x y (in_variant e))
response_payload_same i (response_payload.Other x) (response_payload.Other y) e = i.other.same x y (i.other.rules.same x y (in_variant e))
response_payload_same i x y e = absurd (apart e refl)

-- the choice
abbrev pub response_payload_choice : {A : Type 0} (eq : ResponsePayload A → ResponsePayload A → Boole) → ResponsePayloadItems A eq → ChoiceOf (ResponsePayload A)
response_payload_choice eq i = choice_by {typ = (λ x. types.Structure)} {C = ChoosesResponsePayload} {m = response_payload_by (response_payload_cases i)} 0x42007C 0x42005C (response_payload_case i) eq (response_payload_same i)
