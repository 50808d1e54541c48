-- Which version client and server speak.
use Rattle.std.specs.Prelude.{◌≡◌, ◌⊎◌, List, [], ◌∷◌, Result, Ok, Err, IsSomeAnd, pos}
use Rattle.kmip_headers.specs.declared.header.ProtocolVersion.{ProtocolVersion}
use Rattle.kmip_responses.specs.declared.response_payload.DiscoverVersionsResponse.{DiscoverVersionsResponse}
use Rattle.kmip_client.specs.declared.failure.Failure.{Failure}
use Rattle.kmip_client.specs.declared.failure.Failure.TheVariants as failures

-- the first version of the protocol
abbrev pub first_version : ProtocolVersion
first_version = record { major = pos 1; minor = pos 0 }

-- this version is among these
abbrev pub Has : ProtocolVersion → List ProtocolVersion → Type 0
Has v [] = ⊥
Has v (x ∷ versions) = (x ≡ v) ⊎ Has v versions

-- this is the first of the client's versions that the server has
abbrev pub FirstCommon : (own theirs : List ProtocolVersion) → ProtocolVersion → Type 0
FirstCommon [] theirs v = ⊥
FirstCommon (x ∷ own) theirs v = (Has x theirs × (v ≡ x)) ⊎ ((Has x theirs → ⊥) × FirstCommon own theirs v)

-- the server has none of them
abbrev pub NoneCommon : (own theirs : List ProtocolVersion) → Type 0
NoneCommon [] theirs = Unit {0}
NoneCommon (x ∷ own) theirs = (Has x theirs → ⊥) × NoneCommon own theirs

-- a server refused for want of the operation, or since it can't read the request
abbrev pub IsOfFirst : {A : Type 0} → Failure A → Type 0
IsOfFirst (failures.Refused f) = IsSomeAnd f.reason (λ x. (x.number ≡ 4) ⊎ (x.number ≡ 5))
IsOfFirst (failures.Sending e) = ⊥
IsOfFirst (failures.Receiving e) = ⊥
IsOfFirst (failures.Miscounted r) = ⊥
IsOfFirst (failures.OtherVersion r) = ⊥
IsOfFirst (failures.Unasked r) = ⊥
IsOfFirst (failures.OtherPayload p) = ⊥
IsOfFirst failures.NoCommonVersion = ⊥
IsOfFirst (failures.BadAttributes e) = ⊥

-- which version is chosen by what Discover Versions gave: the first that both have; or 1.0, if the client has it, of a server that refused like one of it
abbrev pub Chooses : {A : Type 0} → List ProtocolVersion → Result (DiscoverVersionsResponse A) (Failure A) → Result ProtocolVersion (Failure A) → Type 0
Chooses own (Ok found) (Ok v) = FirstCommon own found.versions.items v
Chooses own (Ok found) (Err f) = NoneCommon own found.versions.items × (f ≡ failures.NoCommonVersion)
Chooses own (Err f) (Ok v) = IsOfFirst f × Has first_version own × (v ≡ first_version)
Chooses own (Err f) (Err g) = (g ≡ f) × (IsOfFirst f → Has first_version own → ⊥)

-- Discover Versions was asked for, and this was chosen by what it gave
pub record Negotiated {A : Type 0} (Calls : Result (DiscoverVersionsResponse A) (Failure A) → Type 0) (own : List ProtocolVersion)
    (result : Result ProtocolVersion (Failure A)) : Type 0 where
  pub outcome : Result (DiscoverVersionsResponse A) (Failure A)
  pub calls : Calls outcome
  pub chooses : Chooses own outcome result
