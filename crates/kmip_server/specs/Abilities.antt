-- What a server says of itself: the answers to Query and to Discover Versions.
use Rattle.std.specs.Prelude.{◌≡◌, ◌&&◌, Bool, ℕ, List, [], ◌∷◌, Some, None, filter, nat_eq, if◌then◌else◌, option_map, string_bytes, Result, Ok, Err}
use Rattle.std.specs.Ordering.{int_eq}
use Rattle.std.specs.List.{list_any}
use Rattle.kmip_ttlv_parts.specs.declared.enumeration.Enumeration.{Enumeration}
use Rattle.kmip_headers.specs.declared.header.ProtocolVersion.{ProtocolVersion}
use Rattle.kmip_requests.specs.declared.request_payload.QueryRequest.{QueryRequest}
use Rattle.kmip_requests.specs.declared.request_payload.DiscoverVersionsRequest.{DiscoverVersionsRequest}
use Rattle.kmip_responses.specs.declared.response_payload.QueryResponse.{QueryResponse}
use Rattle.kmip_responses.specs.declared.response_payload.ResponsePayload.{ResponsePayload}
use Rattle.kmip_responses.specs.declared.response_payload.ResponsePayload.TheVariants as response_payload
use Rattle.kmip_server.specs.declared.abilities.Abilities.{Abilities}
use Rattle.kmip_server.specs.declared.refusal.Refusal.{Refusal}
use Rattle.kmip_server.specs.Refusals.{IsOfMemory}

-- what a server declares: the versions that it speaks, the best first, its operations, the kinds of its objects, and who made it
pub record Declaration : Type 0 where
  pub versions : List ProtocolVersion
  pub operations : List (Enumeration 0x42005C)
  pub object_types : List (Enumeration 0x420057)
  pub vendor : List ℕ

abbrev pub declaration_of : Abilities → Declaration
declaration_of a = record { versions = a.versions.now; operations = a.operations.now; object_types = a.object_types.now; vendor = a.vendor.now }

-- whether a number of an Enumeration is among these
abbrev pub is_among : {tag : ℕ} → Enumeration tag → List (Enumeration tag) → Bool
is_among x all = list_any (λ y. nat_eq y.number x.number) all

-- whether this version is among these
abbrev pub speaks : List ProtocolVersion → ProtocolVersion → Bool
speaks all v = list_any (λ w. int_eq w.major v.major && int_eq w.minor v.minor) all

-- the server's versions that the client has, in the server's order: all of them, if the client names none
abbrev pub common : List ProtocolVersion → List ProtocolVersion → List ProtocolVersion
common own [] = own
common own (v ∷ known) = filter (speaks (v ∷ known)) own

-- whether a Query asks for this
abbrev pub asks : {A : Type 0} → QueryRequest A → Enumeration 0x420074 → Bool
asks query function = is_among function query.functions.items

-- what a Query lists: of the operations (1), the kinds of objects (2) and the vendor (3) those that it asks for, and nothing else
pub record AreListed {A : Type 0} (declared : Declaration) (query : QueryRequest A) (answer : QueryResponse A) : Type 0 where
  pub operations_are : answer.operations.items ≡ (if asks query record { number = 1 } then declared.operations else [])
  pub object_types_are : answer.object_types.items ≡ (if asks query record { number = 2 } then declared.object_types else [])
  pub vendor_is : option_map string_bytes answer.vendor_identification ≡ (if asks query record { number = 3 } then Some declared.vendor else None)
  pub information : answer.server_information ≡ None
  pub namespaces : answer.application_namespaces.items ≡ []
  pub extensions : answer.extensions.items ≡ []
  pub attestation : answer.attestation_types.items ≡ []
  pub randomness : answer.rng_parameters.items ≡ []
  pub profiles : answer.profiles.items ≡ []
  pub validations : answer.validations.items ≡ []
  pub capabilities : answer.capabilities.items ≡ []
  pub registrations : answer.client_registration_methods.items ≡ []

-- a Query is answered by what it asks for, or memory ran out
abbrev pub AnswersQuery : {A : Type 0} → Declaration → QueryRequest A → Result (ResponsePayload A) Refusal → Type 0
AnswersQuery declared query (Ok (response_payload.Query answer)) = AreListed declared query answer.inner.value
AnswersQuery declared query (Ok _) = ⊥
AnswersQuery declared query (Err refusal) = IsOfMemory refusal

-- Discover Versions is answered by the versions that both sides have, or memory ran out
abbrev pub AnswersVersions : {A : Type 0} → Declaration → DiscoverVersionsRequest A → Result (ResponsePayload A) Refusal → Type 0
AnswersVersions declared known (Ok (response_payload.DiscoverVersions answer)) = answer.versions.items ≡ common declared.versions known.versions.items
AnswersVersions declared known (Ok _) = ⊥
AnswersVersions declared known (Err refusal) = IsOfMemory refusal
