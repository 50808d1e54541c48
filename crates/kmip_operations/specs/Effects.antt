-- What operations do to a server's objects, and what they answer.
use Rattle.std.specs.Prelude.{if◌then◌else◌, int_lt, nat_eq, nat_lt, pos, ◌≡◌, ◌+◌, ◌<◌, ◌^◌, ℕ, ℤ}
use Rattle.std.specs.Prelude.{List, Option, Some, None, Result, Ok, MatchResult, String, option_map, string_bytes, vec_items}
use Rattle.std.specs.Fmt.{decimal}
use Rattle.kmip_memory_store.specs.declared.object.Object.{Object}
use Rattle.kmip_memory_store.specs.declared.object.Step.{Step}
use Rattle.kmip_memory_store.specs.declared.object.Step.TheVariants.{Compromise, Deactivate}
use Rattle.kmip_memory_store.specs.Objects.{Comes, KeepsOthers, Steps, at, objects_of}
use Rattle.kmip_headers.specs.declared.header.RequestHeader.{RequestHeader}
use Rattle.kmip_requests.specs.declared.request_payload.RevokeRequest.{RevokeRequest}
use Rattle.kmip_responses.specs.declared.response_payload.GetResponse.{GetResponse}
use Rattle.kmip_responses.specs.declared.response_payload.ObjectResponse.{ObjectResponse}
use Rattle.kmip_responses.specs.declared.response_payload.ResponsePayload.{ResponsePayload}
use Rattle.kmip_responses.specs.declared.response_payload.ResponsePayload.TheVariants as responses
use Rattle.kmip_operations.specs.Answers.{bytes_of_response}
use Rattle.kmip_operations.specs.declared.about.About.{About}
use Rattle.kmip_operations.specs.declared.objects.Objects.{Objects}

-- the Result Reason Item Not Found (KMIP 1.0, section 9.1.3.2.28)
abbrev pub item_not_found : ℕ
item_not_found = 1

-- the objects are as they were
abbrev pub SameObjects : {K : Type 0} → Objects K → Objects K → Type 0
SameObjects old new = objects_of new.store ≡ objects_of old.store

-- a request with this header is at hand: whether it has attributes by tags goes by its version, and the ID Placeholder is empty
abbrev pub Begins : {K A : Type 0} → RequestHeader A → Objects K → Objects K → Type 0
Begins header old new = new ≡ record old { by_tags = int_lt (pos 1) header.version.major; last = None }

-- this is no Unique Identifier of an object: those are numbers from 1, as texts
abbrev pub IsNoName : List ℕ → Type 0
IsNoName name = (id : ℕ) → id + 1 < 2 ^ 64 → name ≡ decimal (id + 1) → ⊥

-- a request means the object of this number: by its Unique Identifier, or by none, if it is the ID Placeholder
abbrev pub Means : {K A : Type 0} → Objects K → Option (String A) → ℕ → Type 0
Means objects (Some name) id = string_bytes name ≡ decimal (id + 1)
Means objects None id = objects.last ≡ Some id

-- a request means no number
abbrev pub MeansNone : {K A : Type 0} → Objects K → Option (String A) → Type 0
MeansNone objects name = (id : ℕ) → id + 1 < 2 ^ 64 → Means objects name id → ⊥

-- this object is meant, and is there
pub record IsMeant {K A : Type 0} (objects : Objects K) (name : Option (String A)) (id : ℕ) (object : Object (About K) K) : Type 0 where
  pub is_meant : Means objects name id
  pub is_there : at objects.store id ≡ Some object

-- no object that is there is meant
abbrev pub NoneIsMeant : {K A : Type 0} → Objects K → Option (String A) → Type 0
NoneIsMeant objects name = (id : ℕ) → Means objects name id → at objects.store id ≡ None

-- an object of which this is known, of this material, came, under an identifier that none ever had, which is its name and the ID Placeholder;
-- no other changed
pub record OneComes {K : Type 0} (about : About K) (name : List ℕ) (bytes : Option (List ℕ)) (old new : Objects K) : Type 0 where
  pub object : Object (About K) K
  pub about_is : object.about ≡ about
  pub material : option_map vec_items object.material ≡ bytes
  pub id : ℕ
  pub comes : Comes object id old.store new.store
  pub name_is : name ≡ decimal (id + 1)
  pub last : new.last ≡ Some id

-- the object that is meant took a step of its life now, and this is its name; no other changed
pub record OneSteps {K A : Type 0} (step : Step) (now : ℤ) (asked : Option (String A)) (name : List ℕ) (old new : Objects K) : Type 0 where
  pub id : ℕ
  pub is_meant : Means old asked id
  pub steps : Steps step now id old.store (Ok tt) new.store
  pub others : KeepsOthers id old.store new.store
  pub name_is : name ≡ decimal (id + 1)

-- the object that is meant takes a step of its life, unless that is refused: then nothing changes
abbrev pub Takes : {K A E : Type 0} → Step → ℤ → Option (String A) → Objects K → Result (ObjectResponse A) E → Objects K → Type 0
Takes step now asked old result new =
    MatchResult result (λ done. OneSteps step now asked (string_bytes done.unique_identifier) old new) (λ _. SameObjects old new)

-- a payload of its operation names the object that took a step
pub record Names {K A : Type 0} (step : Step) (now : ℤ) (asked : Option (String A)) (into : ObjectResponse A → ResponsePayload A) (old : Objects K)
    (payload : ResponsePayload A) (new : Objects K) : Type 0 where
  pub done : ObjectResponse A
  pub payload_is : payload ≡ into done
  pub took : OneSteps step now asked (string_bytes done.unique_identifier) old new

-- the same, unless that is refused: then nothing changes
abbrev pub Moves : {K A E : Type 0} → Step → ℤ → Option (String A) → (ObjectResponse A → ResponsePayload A) → Objects K → Result (ResponsePayload A) E
    → Objects K → Type 0
Moves step now asked into old result new = MatchResult result (λ payload. Names step now asked into old payload new) (λ _. SameObjects old new)

-- the step that the number of a reason to revoke leads to (KMIP 1.0, section 9.1.3.2.19)
abbrev pub revoking : ℕ → Option Step
revoking code =
    if nat_eq code 2 then Some Compromise else
    if nat_eq code 3 then Some Compromise else
    if nat_eq code 0 then None else
    if nat_lt code 8 then Some Deactivate else None

-- what Revoke does: the step that its reason leads to
abbrev pub Revokes : {K A E : Type 0} → ℤ → RevokeRequest A → Objects K → Result (ResponsePayload A) E → Objects K → Type 0
Revokes now asked old result new =
    MatchResult result (λ payload. (step : Step) × (revoking asked.revocation_reason.code.number ≡ Some step)
    × Names step now asked.unique_identifier responses.Revoke old payload new) (λ _. SameObjects old new)

-- a payload of Create names the object of this key, which came
abbrev pub Creates : {K A : Type 0} → About K → List ℕ → Objects K → ResponsePayload A → Objects K → Type 0
Creates about key old (responses.Create made) new = OneComes about (string_bytes made.unique_identifier) (Some key) old new
Creates about key old _ new = ⊥

-- an object of this key comes, unless that is refused: then nothing changes
abbrev pub Makes : {K A E : Type 0} → About K → List ℕ → Objects K → Result (ResponsePayload A) E → Objects K → Type 0
Makes about key old result new = MatchResult result (λ payload. Creates about key old payload new) (λ _. SameObjects old new)

-- a response has the whole material of the object that is meant, under its name
pub record IsWhole {K A : Type 0} (objects : Objects K) (asked : Option (String A)) (r : GetResponse A) : Type 0 where
  pub id : ℕ
  pub object : Object (About K) K
  pub is_meant : IsMeant objects asked id object
  pub material : option_map vec_items object.material ≡ bytes_of_response r
  pub name_is : string_bytes r.unique_identifier ≡ decimal (id + 1)

-- the same of a payload of Get
abbrev pub Gives : {K A : Type 0} → Objects K → Option (String A) → ResponsePayload A → Type 0
Gives objects asked (responses.Get answer) = IsWhole objects asked answer.inner.value
Gives objects asked _ = ⊥

-- a Get is answered so, or refused
abbrev pub Gets : {K A E : Type 0} → Objects K → Option (String A) → Result (ResponsePayload A) E → Type 0
Gets objects asked result = MatchResult result (λ payload. Gives objects asked payload) (λ _. Unit {0})
