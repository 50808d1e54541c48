-- What the server does to its objects.
use Rattle.std.specs.Prelude.{◌≡◌, ℕ, ℤ, List, Option, Some, None, Result, IfOk, MatchResult, string_bytes}
use Rattle.kmip_ttlv_base.specs.declared.error.Error.{Error}
use Rattle.kmip_ttlv_parts.specs.declared.kept.Kept.{Kept}
use Rattle.kmip_attribute_set.specs.declared.attributes.Attributes.{Attributes}
use Rattle.kmip_objects.specs.declared.object.ManagedObject.{ManagedObject}
use Rattle.kmip_objects.specs.declared.object.ManagedObject.TheVariants as objects
use Rattle.kmip_memory_store.specs.declared.object.Step.TheVariants as steps
use Rattle.kmip_requests.specs.Choices.{IsRegisterRequestObject}
use Rattle.kmip_requests.specs.declared.request_payload.CreateRequest.{CreateRequest}
use Rattle.kmip_requests.specs.declared.request_payload.RegisterRequest.{RegisterRequest}
use Rattle.kmip_requests.specs.declared.request_payload.RequestPayload.{RequestPayload}
use Rattle.kmip_requests.specs.declared.request_payload.RequestPayload.TheVariants.{Create, Register, Locate, Get}
use Rattle.kmip_requests.specs.declared.request_payload.RequestPayload.TheVariants.{GetAttributes, GetAttributeList, Activate, Revoke, Destroy}
use Rattle.kmip_responses.specs.declared.response_payload.ResponsePayload.{ResponsePayload}
use Rattle.kmip_responses.specs.declared.response_payload.ResponsePayload.TheVariants as responses
use Rattle.kmip_operations.specs.Answers.{bytes_of_block}
use Rattle.kmip_operations.specs.Effects.{Creates, Gets, Moves, OneComes, Revokes, SameObjects}
use Rattle.kmip_operations.specs.Finding.{Locates}
use Rattle.kmip_operations.specs.Known.{IsDescribed, IsWanted}
use Rattle.kmip_operations.specs.Showing.{GivesAttributes, GivesNames}
use Rattle.kmip_operations.specs.declared.about.About.{About}
use Rattle.kmip_operations.specs.declared.objects.Objects.{Objects}

-- the bytes of an object that is registered, if the server keeps it
abbrev pub bytes_of_object : {A : Type 0} → ManagedObject A → Option (List ℕ)
bytes_of_object (objects.Certificate c) = Some c.now.certificate_value.items
bytes_of_object (objects.SymmetricKey k) = bytes_of_block k.now.key_block
bytes_of_object (objects.PublicKey k) = bytes_of_block k.now.key_block
bytes_of_object (objects.PrivateKey k) = bytes_of_block k.now.key_block
bytes_of_object (objects.SecretData s) = bytes_of_block s.now.key_block
bytes_of_object _ = None

-- an object of a new key comes, of which is known what the request says of it
pub record IsNewKey {K A : Type 0} (IsOfTags : Kept A → Result (Attributes A) (Error A) → Type 0) (asked : CreateRequest A) (old : Objects K)
    (payload : ResponsePayload A) (new : Objects K) : Type 0 where
  pub about : About K
  pub wanted : IsWanted IsOfTags old.by_tags asked about
  pub key : List ℕ
  pub creates : Creates about key old payload new

-- the same, unless that is refused: then nothing changes
abbrev pub MakesOne : {K A E : Type 0} → (Kept A → Result (Attributes A) (Error A) → Type 0) → CreateRequest A → Objects K
    → Result (ResponsePayload A) E → Objects K → Type 0
MakesOne IsOfTags asked old result new = MatchResult result (λ payload. IsNewKey IsOfTags asked old payload new) (λ _. SameObjects old new)

-- the object of a request comes under this name, with its whole material, and what the request says of it is known
pub record IsRegistered {K A : Type 0} (IsOfTags : Kept A → Result (Attributes A) (Error A) → Type 0) (asked : RegisterRequest A) (old : Objects K)
    (name : List ℕ) (new : Objects K) : Type 0 where
  pub given : ManagedObject A
  pub is_object : IsRegisterRequestObject asked (Some given)
  pub about : About K
  pub described : IsDescribed IsOfTags old.by_tags asked.object_type asked.template_attribute asked.attributes_by_tag about
  pub comes : OneComes about name (bytes_of_object given) old new

abbrev pub Registers : {K A : Type 0} → (Kept A → Result (Attributes A) (Error A) → Type 0) → RegisterRequest A → Objects K → ResponsePayload A
    → Objects K → Type 0
Registers IsOfTags asked old (responses.Register made) new = IsRegistered IsOfTags asked old (string_bytes made.unique_identifier) new
Registers IsOfTags asked old _ new = ⊥

-- the same, unless that is refused: then nothing changes
abbrev pub Adds : {K A E : Type 0} → (Kept A → Result (Attributes A) (Error A) → Type 0) → RegisterRequest A → Objects K
    → Result (ResponsePayload A) E → Objects K → Type 0
Adds IsOfTags asked old result new = MatchResult result (λ payload. Registers IsOfTags asked old payload new) (λ _. SameObjects old new)

-- From old, this is done of what is asked for, at some time: Create and Register add an object, Activate, Revoke and Destroy move the one
-- that is meant, and nothing else changes any; Get, Get Attributes and Get Attribute List give the one that is meant, and Locate names those that
-- are sought
abbrev pub Handles : {K A E : Type 0} → (Attributes A → Result (Kept A) (Error A) → Type 0) → (Kept A → Result (Attributes A) (Error A) → Type 0)
    → Objects K → RequestPayload A → Result (ResponsePayload A) E → Objects K → Type 0
Handles IsTagged IsOfTags old (Create asked) result new = MakesOne IsOfTags asked old result new
Handles IsTagged IsOfTags old (Register asked) result new = Adds IsOfTags asked.inner.value old result new
Handles IsTagged IsOfTags old (Activate asked) result new =
    (now : ℤ) × Moves steps.Activate now asked.unique_identifier responses.Activate old result new
Handles IsTagged IsOfTags old (Revoke asked) result new = (now : ℤ) × Revokes now asked old result new
Handles IsTagged IsOfTags old (Destroy asked) result new =
    (now : ℤ) × Moves steps.Destroy now asked.unique_identifier responses.Destroy old result new
Handles IsTagged IsOfTags old (Get asked) result new = Gets old asked.unique_identifier result × SameObjects old new
Handles IsTagged IsOfTags old (GetAttributes asked) result new =
    IfOk result (λ payload. GivesAttributes IsTagged old asked payload) × SameObjects old new
Handles IsTagged IsOfTags old (GetAttributeList asked) result new = IfOk result (λ payload. GivesNames IsTagged old asked payload) × SameObjects old new
Handles IsTagged IsOfTags old (Locate asked) result new = Locates IsOfTags asked old result new
Handles IsTagged IsOfTags old _ result new = SameObjects old new
