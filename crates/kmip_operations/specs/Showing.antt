-- What Get Attributes and Get Attribute List answer (KMIP 1.0, sections 4.11 and 4.12).
use Rattle.std.specs.Prelude.{◌≡◌, ◌+◌, ℕ, ℤ, pos, Bool, true, List, [], Option, Some, None, Result, Ok, MatchBool, String, filter, map, string_bytes}
use Rattle.std.specs.Fmt.{decimal}
use Rattle.std.specs.Ordering.{int_eq}
use Rattle.kmip_ttlv_base.specs.declared.error.Error.{Error}
use Rattle.kmip_ttlv_parts.specs.declared.kept.Kept.{Kept}
use Rattle.kmip_attribute_set.specs.declared.attributes.Attributes.{Attributes}
use Rattle.kmip_attribute_set.specs.Tags.{Refers}
use Rattle.kmip_memory_store.specs.declared.object.Object.{Object}
use Rattle.kmip_requests.specs.declared.request_payload.GetAttributesRequest.{GetAttributesRequest}
use Rattle.kmip_requests.specs.declared.request_payload.ObjectRequest.{ObjectRequest}
use Rattle.kmip_responses.specs.declared.response_payload.GetAttributesResponse.{GetAttributesResponse}
use Rattle.kmip_responses.specs.declared.response_payload.GetAttributeListResponse.{GetAttributeListResponse}
use Rattle.kmip_responses.specs.declared.response_payload.ResponsePayload.{ResponsePayload}
use Rattle.kmip_responses.specs.declared.response_payload.ResponsePayload.TheVariants as responses
use Rattle.kmip_operations.specs.declared.about.About.{About}
use Rattle.kmip_operations.specs.declared.objects.Objects.{Objects}
use Rattle.kmip_operations.specs.Effects.{IsMeant}
use Rattle.kmip_operations.specs.Listing.{Saying, asked_of, own, saying_of}

-- the attributes of a response: by names, and none by tags
pub record AreByNames {A : Type 0} (names : List (String A)) (asked : GetAttributesRequest A) (attributes : Attributes A) (r : GetAttributesResponse A)
    : Type 0 where
  pub asks : names ≡ asked.attribute_names.items
  pub are : r.attributes.items ≡ attributes.list.items
  pub alone : r.attributes_by_tag ≡ None

-- the same of KMIP 2.0: by tags, and none by names
pub record AreByTags {A : Type 0} (IsTagged : Attributes A → Result (Kept A) (Error A) → Type 0) (asked : GetAttributesRequest A)
    (attributes : Attributes A) (r : GetAttributesResponse A) : Type 0 where
  pub items : Kept A
  pub items_are : r.attributes_by_tag ≡ Some items
  pub tagged : IsTagged attributes (Ok items)
  pub alone : r.attributes.items ≡ []
  pub unmixed : asked.attribute_names.items ≡ []

-- a response has those attributes of the object that is meant that are asked for, under its name; by tags they are the same attributes as by names
pub record ShowsAttributes {K A : Type 0} (IsTagged : Attributes A → Result (Kept A) (Error A) → Type 0) (objects : Objects K)
    (asked : GetAttributesRequest A) (r : GetAttributesResponse A) : Type 0 where
  pub id : ℕ
  pub object : Object (About K) K
  pub is_meant : IsMeant objects asked.unique_identifier id object
  pub name_is : string_bytes r.unique_identifier ≡ decimal (id + 1)
  pub names : List (String A)
  pub attributes : Attributes A
  pub attributes_are : map saying_of attributes.list.items ≡ asked_of names (own id object)
  pub form : MatchBool objects.by_tags (AreByTags IsTagged asked attributes r) (AreByNames names asked attributes r)

-- the same of a payload of Get Attributes
abbrev pub GivesAttributes : {K A : Type 0} → (Attributes A → Result (Kept A) (Error A) → Type 0) → Objects K → GetAttributesRequest A
    → ResponsePayload A → Type 0
GivesAttributes IsTagged objects asked (responses.GetAttributes r) = ShowsAttributes IsTagged objects asked r
GivesAttributes IsTagged objects asked _ = ⊥

-- whether an attribute is the first of its name
abbrev pub is_first_index : Option ℤ → Bool
is_first_index (Some index) = int_eq index (pos 0)
is_first_index None = true

abbrev pub is_first : Saying → Bool
is_first one = is_first_index one.index

-- the names of attributes, each once
abbrev pub names_of : List Saying → List (List ℕ)
names_of all = map (λ one. one.name) (filter is_first all)

-- a response has the names of all attributes of the object that is meant, under its name: from KMIP 2.0 on as references to their tags
pub record ShowsNames {K A : Type 0} (IsTagged : Attributes A → Result (Kept A) (Error A) → Type 0) (objects : Objects K) (asked : ObjectRequest A)
    (r : GetAttributeListResponse A) : Type 0 where
  pub id : ℕ
  pub object : Object (About K) K
  pub is_meant : IsMeant objects asked.unique_identifier id object
  pub name_is : string_bytes r.unique_identifier ≡ decimal (id + 1)
  pub form : MatchBool objects.by_tags
      ((r.attribute_names.items ≡ []) × Refers IsTagged (names_of (own id object)) r.other_items)
      (map string_bytes r.attribute_names.items ≡ names_of (own id object))

-- the same of a payload of Get Attribute List
abbrev pub GivesNames : {K A : Type 0} → (Attributes A → Result (Kept A) (Error A) → Type 0) → Objects K → ObjectRequest A → ResponsePayload A → Type 0
GivesNames IsTagged objects asked (responses.GetAttributeList r) = ShowsNames IsTagged objects asked r
GivesNames IsTagged objects asked _ = ⊥
