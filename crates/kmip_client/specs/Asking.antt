-- What a client asks for, and what it returns.
use Rattle.std.specs.Prelude.{◌≡◌, ◌⊎◌, ℕ, [], ◌∷◌, Some, None, Result, Ok, Err, pos}
use Rattle.kmip_headers.specs.declared.header.ProtocolVersion.{ProtocolVersion}
use Rattle.kmip_headers.specs.declared.header.RequestHeader.{RequestHeader}
use Rattle.kmip_messages.specs.declared.request.Request.{Request}
use Rattle.kmip_messages.specs.declared.request.RequestItem.{RequestItem}
use Rattle.kmip_messages.specs.declared.response.Response.{Response}
use Rattle.kmip_messages.specs.declared.response.ResponseItem.{ResponseItem}
use Rattle.kmip_requests.specs.declared.request_payload.RequestPayload.{RequestPayload}
use Rattle.kmip_responses.specs.declared.response_payload.ResponsePayload.{ResponsePayload}
use Rattle.kmip_client.specs.declared.failure.Failure.{Failure}
use Rattle.kmip_client.specs.declared.failure.Failure.TheVariants as failures
use Rattle.kmip_client.specs.Refusals.{IsOutOfMemory, refusal_of}

-- a header of this version and of one item, and without all that may be absent
pub record IsPlain {A : Type 0} (version : ProtocolVersion) (header : RequestHeader A) : Type 0 where
  pub version_is : header.version ≡ version
  pub count : header.batch_count ≡ pos 1
  pub size : header.maximum_response_size ≡ None
  pub client : header.client_correlation_value ≡ None
  pub server : header.server_correlation_value ≡ None
  pub asynchronous : header.asynchronous_indicator ≡ None
  pub capable : header.attestation_capable_indicator ≡ None
  pub attestation : header.attestation_types.items ≡ []
  pub authentication : header.authentication ≡ None
  pub errors : header.batch_error_continuation_option ≡ None
  pub order : header.batch_order_option ≡ None
  pub time : header.time_stamp ≡ None

-- a request that asks for this alone, in this version
pub record AsksOne {A : Type 0} (version : ProtocolVersion) (operation : ℕ) (payload : RequestPayload A) (request : Request A) : Type 0 where
  pub header : IsPlain version request.header
  pub item : RequestItem A
  pub items : request.items.items ≡ item ∷ []
  pub operation_is : item.operation.number ≡ operation
  pub payload_is : item.payload ≡ payload
  pub name : item.unique_batch_item_id ≡ None
  pub ephemeral : item.ephemeral ≡ None
  pub extension : item.message_extension ≡ None

-- what an item says of its operation: it is done, with this payload; it isn't, for this reason; or it is, and there is no payload
abbrev pub Says : {A : Type 0} → ResponseItem A → Result (ResponsePayload A) (Failure A) → Type 0
Says item (Ok payload) = (item.result_status.number ≡ 0) × (item.payload ≡ Some payload)
Says item (Err (failures.Refused f)) = (item.result_status.number ≡ 0 → ⊥) × (f ≡ refusal_of item)
Says item (Err (failures.OtherPayload p)) = (item.result_status.number ≡ 0) × (item.payload ≡ None) × (p ≡ None)
Says item (Err (failures.Sending e)) = ⊥
Says item (Err (failures.Receiving e)) = ⊥
Says item (Err (failures.Miscounted r)) = ⊥
Says item (Err (failures.OtherVersion r)) = ⊥
Says item (Err (failures.Unasked r)) = ⊥
Says item (Err failures.NoCommonVersion) = ⊥
Says item (Err (failures.BadAttributes e)) = ⊥

-- such a request was answered, and the one item of the response says this
pub record Answered {A : Type 0} (Exchanges : Request A → Result (Response A) (Failure A) → Type 0) (IsRequest : Request A → Type 0)
    (result : Result (ResponsePayload A) (Failure A)) : Type 0 where
  pub request : Request A
  pub is_request : IsRequest request
  pub response : Response A
  pub exchanged : Exchanges request (Ok response)
  pub item : ResponseItem A
  pub items : response.items.items ≡ item ∷ []
  pub says : Says item result

-- such a request was not answered
pub record NotAnswered {A : Type 0} (Exchanges : Request A → Result (Response A) (Failure A) → Type 0) (IsRequest : Request A → Type 0)
    (failure : Failure A) : Type 0 where
  pub request : Request A
  pub is_request : IsRequest request
  pub exchanged : Exchanges request (Err failure)

-- what asking for one thing gives: what the item of the answer says, or why there is no answer; or there was no memory for a request, and nothing was asked
abbrev pub Asks : {A : Type 0} → (Request A → Result (Response A) (Failure A) → Type 0) → Type 0 → (Request A → Type 0)
    → Result (ResponsePayload A) (Failure A) → Type 0
Asks Exchanges AsksNothing IsRequest (Ok payload) = Answered Exchanges IsRequest (Ok payload)
Asks Exchanges AsksNothing IsRequest (Err f) = Answered Exchanges IsRequest (Err f) ⊎ (NotAnswered Exchanges IsRequest f ⊎ (IsOutOfMemory f × AsksNothing))
