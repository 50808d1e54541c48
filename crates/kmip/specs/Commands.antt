-- What a command asks of a server, and what it returns.
use Rattle.std.specs.Prelude.{◌≡◌, ◌⊎◌, ◌*◌, ℕ, ℤ, pos, List, [], ◌∷◌, length, None, Option, Some, Result, Ok, Err, map}
use Rattle.kmip_ttlv_base.specs.Errors.{IsMemory}
use Rattle.kmip_ttlv_base.specs.declared.error.Error.{Error}
use Rattle.kmip_ttlv_parts.specs.declared.boxed.Boxed.{Boxed}
use Rattle.kmip_attribute_set.specs.Attributes.{AreOfKey}
use Rattle.kmip_attribute_set.specs.declared.attributes.Attributes.{Attributes}
use Rattle.kmip_objects.specs.declared.key.KeyBlock.{KeyBlock}
use Rattle.kmip_headers.specs.declared.header.ProtocolVersion.{ProtocolVersion}
use Rattle.kmip_messages.specs.declared.request.Request.{Request}
use Rattle.kmip_messages.specs.declared.response.Response.{Response}
use Rattle.kmip_requests.specs.declared.request_payload.CreateRequest.{CreateRequest}
use Rattle.kmip_requests.specs.declared.request_payload.LocateRequest.{LocateRequest}
use Rattle.kmip_requests.specs.declared.request_payload.RegisterRequest.{RegisterRequest}
use Rattle.kmip_requests.specs.declared.request_payload.RequestPayload.TheVariants as requests
use Rattle.kmip_responses.specs.declared.response_payload.ResponsePayload.TheVariants as responses
use Rattle.kmip_client.specs.declared.failure.Failure.{Failure}
use Rattle.kmip_client.specs.Calling.{Calls, CallsUnless}
use Rattle.kmip_client.specs.Negotiation.{Negotiated}
use Rattle.kmip_client.specs.Payloads.{CantLocate, CantRefer, CantTag, GetsAttributes, IsCreate, IsDiscover, IsGet, IsGetAttributes, IsLocate, IsLocateBy}
use Rattle.kmip_client.specs.Payloads.{IsObject, IsQuery, IsRawKey, IsRegisterBoxed, IsRevoke, Reading, Tagging}
use Rattle.kmip.specs.declared.done.Done.{Done}
use Rattle.kmip.specs.declared.done.Done.TheVariants as dones
use Rattle.kmip.specs.declared.request.Asked.{Asked}
use Rattle.kmip.specs.declared.request.Asked.TheVariants as commands
use Rattle.kmip.specs.declared.request.NewKey.{NewKey}

-- what a call returns, as one of the things that a server gives
abbrev pub carried : {A T : Type 0} → (T → Done A) → Result T (Failure A) → Result (Done A) (Failure A)
carried into (Ok x) = Ok (into x)
carried into (Err f) = Err f

-- a command returns what such a call does
pub record Gives {A T : Type 0} (Returns : Result T (Failure A) → Type 0) (into : T → Done A) (result : Result (Done A) (Failure A)) : Type 0 where
  pub outcome : Result T (Failure A)
  pub returns : Returns outcome
  pub given : result ≡ carried into outcome

-- to make a key with the attributes that a command names
pub record IsNewKey {A : Type 0} (IsTagged : Tagging A) (version : ProtocolVersion) (key : NewKey) (bits : ℤ) (asked : CreateRequest A) : Type 0 where
  pub attributes : Attributes A
  pub are_of_key : AreOfKey key.algorithm bits key.usage key.name.now attributes.list.items
  pub is_create : IsCreate IsTagged version attributes asked

-- to keep these bytes as a key of eight times as many bits, with the attributes that a command names
pub record IsKeptKey {A : Type 0} (IsTagged : Tagging A) (version : ProtocolVersion) (key : NewKey) (bytes : List ℕ)
    (asked : Boxed (RegisterRequest A) A) : Type 0 where
  pub block : KeyBlock A
  pub is_block : IsRawKey key.algorithm (pos (8 * length bytes)) bytes block
  pub attributes : Attributes A
  pub are_of_key : AreOfKey key.algorithm (pos (8 * length bytes)) key.usage key.name.now attributes.list.items
  pub is_register : IsRegisterBoxed IsTagged version block attributes asked

-- a key can't be asked for: memory ran out, or its attributes can't go by their tags
abbrev pub CantHave : {A : Type 0} → Tagging A → ProtocolVersion → NewKey → ℤ → Error A → Type 0
CantHave {A} IsTagged version key bits e =
    IsMemory e ⊎ ((attributes : Attributes A) × AreOfKey key.algorithm bits key.usage key.name.now attributes.list.items
    × CantTag IsTagged version attributes e)

-- to find every object: by no attributes
abbrev pub IsLocateAll : {A : Type 0} → Tagging A → ProtocolVersion → LocateRequest A → Type 0
IsLocateAll {A} IsTagged version asked = (none : Attributes A) × (none.list.items ≡ []) × IsLocateBy IsTagged version none asked

-- they can't be found: no attributes can't go by their tags
abbrev pub CantLocateAll : {A : Type 0} → Tagging A → ProtocolVersion → Error A → Type 0
CantLocateAll {A} IsTagged version e = (none : Attributes A) × (none.list.items ≡ []) × CantTag IsTagged version none e

-- what a command asks of a server, and what it returns, by what exchanges there are from its beginning to its end; with these bytes if a key is kept
abbrev pub Performs : {A : Type 0} → Tagging A → Reading A → (Request A → Result (Response A) (Failure A) → Type 0) → Type 0 → ProtocolVersion → Asked
    → List ℕ → Result (Done A) (Failure A) → Type 0
Performs IsTagged IsOfTags Exchanges AsksNothing version commands.Query bytes result =
    Gives (Calls Exchanges AsksNothing version 24 requests.Query (IsQuery (record { number = 1 } ∷ record { number = 2 } ∷ record { number = 3 } ∷ []))
    responses.Query) dones.Query result
Performs IsTagged IsOfTags Exchanges AsksNothing version commands.Versions bytes result =
    Gives (Calls Exchanges AsksNothing version 30 requests.DiscoverVersions (IsDiscover []) responses.DiscoverVersions) dones.Versions result
Performs IsTagged IsOfTags Exchanges AsksNothing version (commands.Create key bits) bytes result =
    Gives (CallsUnless Exchanges AsksNothing version 1 requests.Create (IsNewKey IsTagged version key bits) (CantHave IsTagged version key bits)
    responses.Create) dones.Create result
Performs IsTagged IsOfTags Exchanges AsksNothing version (commands.Register key file) bytes result =
    Gives (CallsUnless Exchanges AsksNothing version 3 requests.Register (IsKeptKey IsTagged version key bytes)
    (CantHave IsTagged version key (pos (8 * length bytes))) responses.Register) dones.Register result
Performs IsTagged IsOfTags Exchanges AsksNothing version (commands.Locate (Some name)) bytes result =
    Gives (CallsUnless Exchanges AsksNothing version 8 requests.Locate (IsLocate IsTagged version name.now) (CantLocate IsTagged version name.now)
    responses.Locate) dones.Locate result
Performs IsTagged IsOfTags Exchanges AsksNothing version (commands.Locate None) bytes result =
    Gives (CallsUnless Exchanges AsksNothing version 8 requests.Locate (IsLocateAll IsTagged version) (CantLocateAll IsTagged version)
    responses.Locate) dones.Locate result
Performs IsTagged IsOfTags Exchanges AsksNothing version (commands.Get identifier) bytes result =
    Gives (Calls Exchanges AsksNothing version 10 requests.Get (IsGet identifier.now) responses.Get) dones.Get result
Performs IsTagged IsOfTags Exchanges AsksNothing version (commands.Attributes identifier names) bytes result =
    Gives (GetsAttributes IsOfTags (CallsUnless Exchanges AsksNothing version 11 requests.GetAttributes
    (IsGetAttributes IsTagged version identifier.now (map (λ t. t.now) names.items)) (CantRefer version) responses.GetAttributes)) dones.Attributes result
Performs IsTagged IsOfTags Exchanges AsksNothing version (commands.Activate identifier) bytes result =
    Gives (Calls Exchanges AsksNothing version 18 requests.Activate (IsObject identifier.now) responses.Activate) dones.Activate result
Performs IsTagged IsOfTags Exchanges AsksNothing version (commands.Revoke identifier reason) bytes result =
    Gives (Calls Exchanges AsksNothing version 19 requests.Revoke (IsRevoke identifier.now reason.number) responses.Revoke) dones.Revoke result
Performs IsTagged IsOfTags Exchanges AsksNothing version (commands.Destroy identifier) bytes result =
    Gives (Calls Exchanges AsksNothing version 20 requests.Destroy (IsObject identifier.now) responses.Destroy) dones.Destroy result

-- the versions that the program speaks, the best first
abbrev pub own_versions : List ProtocolVersion
own_versions = record { major = pos 2; minor = pos 0 } ∷ map (λ minor. record { major = pos 1; minor = pos minor }) (4 ∷ 3 ∷ 2 ∷ 1 ∷ 0 ∷ [])

-- a command is performed in the version that was chosen, or not at all, for the reason that none was
abbrev pub PerformsIn : {C A : Type 0} → Tagging A → Reading A → (C → C → Request A → Result (Response A) (Failure A) → Type 0) → (middle new : C)
    → Result ProtocolVersion (Failure A) → Asked → List ℕ → Result (Done A) (Failure A) → Type 0
PerformsIn IsTagged IsOfTags Exchanges middle new (Ok version) asked bytes result =
    Performs IsTagged IsOfTags (Exchanges middle new) (new ≡ middle) version asked bytes result
PerformsIn IsTagged IsOfTags Exchanges middle new (Err f) asked bytes result = (result ≡ Err f) × (new ≡ middle)

-- the version is chosen among the program's by what versions the server has, and then a command is performed
pub record Negotiates {C A : Type 0} (IsTagged : Tagging A) (IsOfTags : Reading A) (Exchanges : C → C → Request A → Result (Response A) (Failure A) → Type 0)
    (old new : C) (version : ProtocolVersion) (asked : Asked) (bytes : List ℕ) (result : Result (Done A) (Failure A)) : Type 0 where
  pub middle : C
  pub outcome : Result ProtocolVersion (Failure A)
  pub negotiated : Negotiated (Calls (Exchanges old middle) (middle ≡ old) version 30 requests.DiscoverVersions (IsDiscover own_versions)
      responses.DiscoverVersions) own_versions outcome
  pub performs : PerformsIn IsTagged IsOfTags Exchanges middle new outcome asked bytes result

-- a command is performed in the version that is wanted, or in the best that program and server have, which the server is asked for in 1.1
abbrev pub Converses : {C A : Type 0} → Tagging A → Reading A → (C → C → Request A → Result (Response A) (Failure A) → Type 0) → (old new : C)
    → Option ProtocolVersion → Asked → List ℕ → Result (Done A) (Failure A) → Type 0
Converses IsTagged IsOfTags Exchanges old new (Some version) asked bytes result =
    Performs IsTagged IsOfTags (Exchanges old new) (new ≡ old) version asked bytes result
Converses IsTagged IsOfTags Exchanges old new None asked bytes result =
    Negotiates IsTagged IsOfTags Exchanges old new (record { major = pos 1; minor = pos 1 }) asked bytes result
