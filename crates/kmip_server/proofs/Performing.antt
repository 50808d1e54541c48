-- What is done of a payload.
use Rattle.std.proofs.Common.{◌≡◌, Result, refl}
use Rattle.kmip_ttlv_parts.specs.declared.enumeration.Enumeration.{Enumeration}
use Rattle.kmip_requests.specs.declared.request_payload.DiscoverVersionsRequest.{DiscoverVersionsRequest}
use Rattle.kmip_requests.specs.declared.request_payload.QueryRequest.{QueryRequest}
use Rattle.kmip_requests.specs.declared.request_payload.RequestPayload.{RequestPayload}
use Rattle.kmip_requests.specs.declared.request_payload.RequestPayload.TheVariants as request_payload
use Rattle.kmip_responses.specs.declared.response_payload.ResponsePayload.{ResponsePayload}
use Rattle.kmip_server.specs.declared.refusal.Refusal.{Refusal}
use Rattle.kmip_server.specs.Abilities.{Declaration}
use Rattle.kmip_server.specs.Items.{Performs}

-- what is neither a Query nor Discover Versions is the handler's
pub performs_other : {H A : Type 0} (Does : H → Enumeration 0x42005C → RequestPayload A → Result (ResponsePayload A) Refusal → H → Type 0)
    (declaration : H → Declaration) (old : H) (operation : Enumeration 0x42005C) (asked : RequestPayload A)
    (done : Result (ResponsePayload A) Refusal) (new : H)
    → ((query : QueryRequest A) → asked ≡ request_payload.Query query → ⊥)
    → ((known : DiscoverVersionsRequest A) → asked ≡ request_payload.DiscoverVersions known → ⊥)
    → Does old operation asked done new → Performs Does declaration old operation asked done new
performs_other Does declaration old operation (request_payload.Query query) done new no_query no_versions does = absurd (no_query query refl)
performs_other Does declaration old operation (request_payload.DiscoverVersions known) done new no_query no_versions does =
    absurd (no_versions known refl)
performs_other Does declaration old operation _ done new no_query no_versions does = does
