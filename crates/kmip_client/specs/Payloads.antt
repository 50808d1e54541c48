-- What requests ask for.
use Rattle.std.specs.Prelude.{◌≡◌, ◌⊎◌, ℕ, ℤ, pos, int_lt, Bool, true, false, IsTrue, MatchBool, if◌then◌else◌, List, [], ◌∷◌, ◌++◌, map, string_bytes}
use Rattle.std.specs.Prelude.{Option, Some, None, IsSomeAnd, Result, Ok, Err, String, Vec}
use Rattle.kmip_ttlv_base.specs.Errors.{IsMemory}
use Rattle.kmip_ttlv_base.specs.declared.error.Error.{Error}
use Rattle.kmip_ttlv_base.specs.Values.{no_values}
use Rattle.kmip_ttlv_parts.specs.KeptItems.{values_kept}
use Rattle.kmip_ttlv_parts.specs.declared.kept.Kept.{Kept}
use Rattle.kmip_ttlv_parts.specs.declared.boxed.Boxed.{Boxed}
use Rattle.kmip_ttlv_parts.specs.declared.enumeration.Enumeration.{Enumeration}
use Rattle.kmip_attributes.specs.declared.attribute.Attribute.{Attribute}
use Rattle.kmip_headers.specs.declared.header.ProtocolVersion.{ProtocolVersion}
use Rattle.kmip_objects.specs.declared.key.KeyBlock.{KeyBlock}
use Rattle.kmip_objects.specs.declared.key.KeyMaterial.{KeyMaterial}
use Rattle.kmip_objects.specs.declared.key.KeyMaterial.TheVariants as materials
use Rattle.kmip_objects.specs.declared.key.KeyValue.{KeyValue}
use Rattle.kmip_objects.specs.declared.key.KeyValue.TheVariants as key_values
use Rattle.kmip_objects.specs.declared.template.TemplateAttribute.{TemplateAttribute}
use Rattle.kmip_requests.specs.declared.request_payload.CreateRequest.{CreateRequest}
use Rattle.kmip_requests.specs.declared.request_payload.DiscoverVersionsRequest.{DiscoverVersionsRequest}
use Rattle.kmip_requests.specs.declared.request_payload.GetAttributesRequest.{GetAttributesRequest}
use Rattle.kmip_requests.specs.declared.request_payload.GetRequest.{GetRequest}
use Rattle.kmip_requests.specs.declared.request_payload.LocateRequest.{LocateRequest}
use Rattle.kmip_requests.specs.declared.request_payload.ObjectRequest.{ObjectRequest}
use Rattle.kmip_requests.specs.declared.request_payload.QueryRequest.{QueryRequest}
use Rattle.kmip_requests.specs.declared.request_payload.RegisterRequest.{RegisterRequest}
use Rattle.kmip_requests.specs.declared.request_payload.RevokeRequest.{RevokeRequest}
use Rattle.kmip_responses.specs.declared.response_payload.GetAttributesResponse.{GetAttributesResponse}
use Rattle.kmip_attribute_set.specs.Attributes.{IsName}
use Rattle.kmip_attribute_set.specs.Tags.{Refers}
use Rattle.kmip_attribute_set.specs.declared.attributes.Attributes.{Attributes}
use Rattle.kmip_client.specs.declared.failure.Failure.{Failure}
use Rattle.kmip_client.specs.Refusals.{IsBad}

-- what is returned for attributes as items under their tags
abbrev pub Tagging : Type 0 → Type 1
Tagging A = Attributes A → Result (Kept A) (Error A) → Type 0

-- what is returned for items as attributes of their tags' names
abbrev pub Reading : Type 0 → Type 1
Reading A = Kept A → Result (Attributes A) (Error A) → Type 0

-- whether messages of a version have attributes by their tags: from 2.0 on
abbrev pub is_by_tags : ProtocolVersion → Bool
is_by_tags version = int_lt (pos 1) version.major

-- attributes by their names, in a version that has them so
abbrev pub named : {A : Type 0} → ProtocolVersion → Attributes A → List (Attribute A)
named version given = if is_by_tags version then [] else given.list.items

-- attributes as items under their tags, in a version that has them so
abbrev pub AreTagged : {A : Type 0} → Tagging A → ProtocolVersion → Attributes A → Option (Kept A) → Type 0
AreTagged IsTagged version given items = MatchBool (is_by_tags version) (IsSomeAnd items (λ k. IsTagged given (Ok k))) (items ≡ None)

-- they can't be
abbrev pub CantTag : {A : Type 0} → Tagging A → ProtocolVersion → Attributes A → Error A → Type 0
CantTag IsTagged version given e = IsTrue (is_by_tags version) × IsTagged given (Err e)

-- a text that may be absent is this one
abbrev pub IsText : {A : Type 0} → List ℕ → Option (String A) → Type 0
IsText text o = IsSomeAnd o (λ s. string_bytes s ≡ text)

-- the object of this identifier
abbrev pub IsObject : {A : Type 0} → List ℕ → ObjectRequest A → Type 0
IsObject identifier r = IsText identifier r.unique_identifier

-- to get the object of this identifier as it is
pub record IsGet {A : Type 0} (identifier : List ℕ) (r : GetRequest A) : Type 0 where
  pub object : IsText identifier r.unique_identifier
  pub format : r.key_format_type ≡ None
  pub wrap : r.key_wrap_type ≡ None
  pub compression : r.key_compression_type ≡ None
  pub wrapping : r.key_wrapping_specification ≡ None

-- these attributes are asked for by their names, or by references to their tags
abbrev pub AreAsked : {A : Type 0} → Tagging A → Bool → List (List ℕ) → List (String A) → Kept A → Type 0
AreAsked IsTagged false names asked items = (map (λ s. string_bytes s) asked ≡ names) × (values_kept items ≡ no_values)
AreAsked IsTagged true names asked items = (asked ≡ []) × Refers IsTagged names items

-- to get these attributes of it
pub record IsGetAttributes {A : Type 0} (IsTagged : Tagging A) (version : ProtocolVersion) (identifier : List ℕ) (names : List (List ℕ))
    (r : GetAttributesRequest A) : Type 0 where
  pub object : IsText identifier r.unique_identifier
  pub asked : AreAsked IsTagged (is_by_tags version) names r.attribute_names.items r.other_items

-- they can't be asked for: memory ran out, or they go by tags, and a name has none, or there are too many
abbrev pub CantRefer : {A : Type 0} → ProtocolVersion → Error A → Type 0
CantRefer version e = IsMemory e ⊎ IsTrue (is_by_tags version)

-- to revoke it, for this reason
pub record IsRevoke {A : Type 0} (identifier : List ℕ) (code : ℕ) (r : RevokeRequest A) : Type 0 where
  pub object : IsText identifier r.unique_identifier
  pub code_is : r.revocation_reason.code.number ≡ code
  pub message : r.revocation_reason.message ≡ None
  pub date : r.compromise_occurrence_date ≡ None

-- to say this of the server
abbrev pub IsQuery : {A : Type 0} → List (Enumeration 0x420074) → QueryRequest A → Type 0
IsQuery functions r = r.functions.items ≡ functions

-- to say which of these versions the server has
abbrev pub IsDiscover : {A : Type 0} → List ProtocolVersion → DiscoverVersionsRequest A → Type 0
IsDiscover versions r = r.versions.items ≡ versions

-- to find the objects that have all these attributes
pub record IsLocateBy {A : Type 0} (IsTagged : Tagging A) (version : ProtocolVersion) (given : Attributes A) (r : LocateRequest A) : Type 0 where
  pub by_name : r.attributes.items ≡ named version given
  pub by_tag : AreTagged IsTagged version given r.attributes_by_tag
  pub most : r.maximum_items ≡ None
  pub offset : r.offset_items ≡ None
  pub storage : r.storage_status_mask ≡ None
  pub member : r.object_group_member ≡ None
  pub others : values_kept r.other_items ≡ no_values

-- these attributes are one name
pub record IsOnlyName {A : Type 0} (text : List ℕ) (given : Attributes A) : Type 0 where
  pub name : Attribute A
  pub list_is : given.list.items ≡ name ∷ []
  pub name_is : IsName text name

-- to find the objects of this name
abbrev pub IsLocate : {A : Type 0} → Tagging A → ProtocolVersion → List ℕ → LocateRequest A → Type 0
IsLocate {A} IsTagged version text r = (given : Attributes A) × IsOnlyName text given × IsLocateBy IsTagged version given r

-- they can't be found: memory ran out, or the name can't go by its tag
abbrev pub CantLocate : {A : Type 0} → Tagging A → ProtocolVersion → List ℕ → Error A → Type 0
CantLocate {A} IsTagged version text e = IsMemory e ⊎ ((given : Attributes A) × IsOnlyName text given × CantTag IsTagged version given e)

-- these attributes, and no template
pub record IsTemplate {A : Type 0} (attributes : List (Attribute A)) (t : TemplateAttribute A) : Type 0 where
  pub names : t.names.items ≡ []
  pub attributes_are : t.attributes.items ≡ attributes

-- attributes by their names, in a version that has them so
abbrev pub HasTemplate : {A : Type 0} → ProtocolVersion → Attributes A → Option (TemplateAttribute A) → Type 0
HasTemplate version given template = MatchBool (is_by_tags version) (template ≡ None) (IsSomeAnd template (IsTemplate given.list.items))

-- to make a symmetric key with these attributes
pub record IsCreate {A : Type 0} (IsTagged : Tagging A) (version : ProtocolVersion) (attributes : Attributes A) (r : CreateRequest A) : Type 0 where
  pub symmetric : r.object_type.number ≡ 2
  pub template : HasTemplate version attributes r.template_attribute
  pub by_tag : AreTagged IsTagged version attributes r.attributes_by_tag
  pub storage : r.protection_storage_masks ≡ None

-- these bytes as a key for this algorithm and of this length, not wrapped
pub record IsRawKey {A : Type 0} (for : Enumeration 0x420028) (bits : ℤ) (bytes : List ℕ) (block : KeyBlock A) : Type 0 where
  pub raw : block.key_format_type.number ≡ 1
  pub compression : block.key_compression_type ≡ None
  pub value : (v : Vec ℕ A) × (no_attributes : Vec (Attribute A) A) × (v.items ≡ bytes) × (no_attributes.items ≡ [])
      × (block.key_value ≡ key_values.Plain (record { key_material = materials.Bytes v; attributes = no_attributes }))
  pub algorithm : block.cryptographic_algorithm ≡ Some for
  pub length : block.cryptographic_length ≡ Some bits
  pub wrapping : block.key_wrapping_data ≡ None

-- the bytes of a key, if it has bytes
abbrev pub bytes_of_material : {A : Type 0} → KeyMaterial A → Option (List ℕ)
bytes_of_material (materials.Bytes v) = Some v.items
bytes_of_material (materials.Structure k) = None

-- the same, if it isn't wrapped as a whole
abbrev pub bytes_of_value : {A : Type 0} → KeyValue A → Option (List ℕ)
bytes_of_value (key_values.Plain v) = bytes_of_material v.key_material
bytes_of_value (key_values.Wrapped w) = None

-- to keep this symmetric key, with these attributes
pub record IsRegister {A : Type 0} (IsTagged : Tagging A) (version : ProtocolVersion) (block : KeyBlock A) (attributes : Attributes A)
    (r : RegisterRequest A) : Type 0 where
  pub symmetric : r.object_type.number ≡ 2
  pub template : HasTemplate version attributes r.template_attribute
  pub by_tag : AreTagged IsTagged version attributes r.attributes_by_tag
  pub object : IsSomeAnd r.symmetric_key (λ k. k.inner.value.key_block ≡ block)
  pub certificate : r.certificate ≡ None
  pub public : r.public_key ≡ None
  pub private : r.private_key ≡ None
  pub split : r.split_key ≡ None
  pub no_template : r.template ≡ None
  pub secret : r.secret_data ≡ None
  pub opaque : r.opaque_object ≡ None
  pub storage : r.protection_storage_masks ≡ None

-- the same, on the heap
abbrev pub IsRegisterBoxed : {A : Type 0} → Tagging A → ProtocolVersion → KeyBlock A → Attributes A → Boxed (RegisterRequest A) A → Type 0
IsRegisterBoxed IsTagged version block attributes r = IsRegister IsTagged version block attributes r.inner.value

-- it can't be kept: memory ran out, or the attributes can't go by their tags
abbrev pub CantKeep : {A : Type 0} → Tagging A → ProtocolVersion → Attributes A → Error A → Type 0
CantKeep IsTagged version given e = IsMemory e ⊎ CantTag IsTagged version given e

-- what is returned for the attributes of a response: those by their names, and behind them those by their tags, if there are any
abbrev pub AreTaken : {A : Type 0} → Reading A → List (Attribute A) → Option (Kept A) → Result (Attributes A) (Failure A) → Type 0
AreTaken IsOfTags list None (Ok attributes) = attributes.list.items ≡ list
AreTaken IsOfTags list None (Err f) = ⊥
AreTaken {A} IsOfTags list (Some items) (Ok attributes) =
    (tagged : Attributes A) × IsOfTags items (Ok tagged) × (attributes.list.items ≡ list ++ tagged.list.items)
AreTaken IsOfTags list (Some items) (Err f) = IsBad (λ e. IsMemory e ⊎ IsOfTags items (Err e)) f

-- what is returned for what Get Attributes gave: its attributes, or why there are none
abbrev pub Takes : {A : Type 0} → Reading A → Result (GetAttributesResponse A) (Failure A) → Result (Attributes A) (Failure A) → Type 0
Takes IsOfTags (Ok r) result = AreTaken IsOfTags r.attributes.items r.attributes_by_tag result
Takes IsOfTags (Err f) result = result ≡ Err f

-- Get Attributes was asked for, and this is returned for what it gave
pub record GetsAttributes {A : Type 0} (IsOfTags : Reading A) (Calls : Result (GetAttributesResponse A) (Failure A) → Type 0)
    (result : Result (Attributes A) (Failure A)) : Type 0 where
  pub outcome : Result (GetAttributesResponse A) (Failure A)
  pub calls : Calls outcome
  pub takes : Takes IsOfTags outcome result
