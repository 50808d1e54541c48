-- Which objects are located (KMIP 1.0, section 4.8).
use Rattle.std.specs.Prelude.{◌≡◌, ◌+◌, ℕ, ℤ, pos, negsuc, Bool, true, false, not, if◌then◌else◌}
use Rattle.std.specs.Prelude.{List, [], ◌∷◌, Option, Some, None, Result, MatchResult, drop, map, string_bytes, take}
use Rattle.std.specs.Fmt.{decimal}
use Rattle.std.specs.Int.{int_bit_and, w32}
use Rattle.std.specs.Ordering.{int_eq}
use Rattle.kmip_ttlv_base.specs.declared.error.Error.{Error}
use Rattle.kmip_ttlv_parts.specs.declared.kept.Kept.{Kept}
use Rattle.kmip_attribute_set.specs.declared.attributes.Attributes.{Attributes}
use Rattle.kmip_memory_store.specs.declared.object.Object.{Object}
use Rattle.kmip_memory_store.specs.Objects.{objects_of}
use Rattle.kmip_requests.specs.declared.request_payload.LocateRequest.{LocateRequest}
use Rattle.kmip_responses.specs.declared.response_payload.ResponsePayload.{ResponsePayload}
use Rattle.kmip_responses.specs.declared.response_payload.ResponsePayload.TheVariants as responses
use Rattle.kmip_operations.specs.declared.about.About.{About}
use Rattle.kmip_operations.specs.declared.objects.Objects.{Objects}
use Rattle.kmip_operations.specs.Effects.{SameObjects}
use Rattle.kmip_operations.specs.Listing.{Saying, own, saying_of}
use Rattle.kmip_operations.specs.Matching.{is_sought}
use Rattle.kmip_operations.specs.Tagging.{AreGiven}

-- whether what is kept on-line is sought, by a Storage Status Mask (KMIP 1.0, section 9.1.3.3.2)
abbrev pub is_on_line : Option ℤ → Bool
is_on_line (Some mask) = not (int_eq (int_bit_and w32 mask (pos 1)) (pos 0))
is_on_line None = true

-- so many; none, if it is negative
abbrev pub natural : ℤ → ℕ
natural (pos n) = n
natural (negsuc n) = 0

-- the first so many; all, if it isn't said
abbrev pub at_most : Option ℤ → List ℕ → List ℕ
at_most (Some number) ids = take (natural number) ids
at_most None ids = ids

-- those behind the first so many
abbrev pub behind : Option ℤ → List ℕ → List ℕ
behind (Some number) ids = drop (natural number) ids
behind None ids = ids

-- the only one
abbrev pub sole : List ℕ → Option ℕ
sole (id ∷ []) = Some id
sole _ = None

-- whether an object that is there has all of these attributes
abbrev pub has_all : {K : Type 0} → List Saying → ℕ → Option (Object (About K) K) → Bool
has_all sought id (Some object) = is_sought sought (own id object)
has_all sought id None = false

-- of these objects those that have all of these attributes, in their order; the first has this number
abbrev pub found_from : {K : Type 0} → List Saying → ℕ → List (Object (About K) K) → List ℕ
found_from sought id [] = []
found_from sought id (x ∷ objects) =
    if is_sought sought (own id x) then id ∷ found_from sought (id + 1) objects else found_from sought (id + 1) objects

-- these are the objects that a request seeks: those that have all of its attributes, which are by names up to KMIP 1.4, and then by tags
pub record IsFound {K A : Type 0} (IsOfTags : Kept A → Result (Attributes A) (Error A) → Type 0) (by_tags : Bool)
    (objects : List (Object (About K) K)) (asked : LocateRequest A) (ids : List ℕ) : Type 0 where
  pub given : Attributes A
  pub are_given : AreGiven IsOfTags by_tags asked.attributes_by_tag given
  pub unmixed : by_tags ≡ true → asked.attributes.items ≡ []
  pub ids_are : ids ≡ found_from (map saying_of (if by_tags then given.list.items else asked.attributes.items)) 0 objects

-- a payload names the objects that a request seeks, in the order in which they came, from its offset on, and no more than it asks for; if one
-- alone is found, it is the ID Placeholder
pub record IsLocated {K A : Type 0} (IsOfTags : Kept A → Result (Attributes A) (Error A) → Type 0) (asked : LocateRequest A) (old : Objects K)
    (names : List (List ℕ)) (new : Objects K) : Type 0 where
  pub same : SameObjects old new
  pub all : List ℕ
  pub found : IsFound IsOfTags old.by_tags (objects_of old.store) asked all
  pub kept : List ℕ
  pub kept_are : kept ≡ (if is_on_line asked.storage_status_mask then all else [])
  pub names_are : names ≡ map (λ id. decimal (id + 1)) (at_most asked.maximum_items (behind asked.offset_items kept))
  pub last : new.last ≡ sole kept

abbrev pub NamesLocated : {K A : Type 0} → (Kept A → Result (Attributes A) (Error A) → Type 0) → LocateRequest A → Objects K → ResponsePayload A
    → Objects K → Type 0
NamesLocated IsOfTags asked old (responses.Locate r) new = IsLocated IsOfTags asked old (map string_bytes r.unique_identifiers.items) new
NamesLocated IsOfTags asked old _ new = ⊥

-- a Locate is answered so, or refused; no object changes
abbrev pub Locates : {K A E : Type 0} → (Kept A → Result (Attributes A) (Error A) → Type 0) → LocateRequest A → Objects K
    → Result (ResponsePayload A) E → Objects K → Type 0
Locates IsOfTags asked old result new =
    MatchResult result (λ payload. NamesLocated IsOfTags asked old payload new) (λ _. SameObjects old new)
