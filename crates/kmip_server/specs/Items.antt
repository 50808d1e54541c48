-- One item of a batch: what is done of it, and what is answered.
use Rattle.std.specs.Prelude.{◌≡◌, ◌⊎◌, Bool, false, ℕ, List, Option, Some, None, option_map, Result, Ok, Err, MatchBool, nat_eq, if◌then◌else◌, string_bytes, vec_items}
use Rattle.kmip_ttlv_base.specs.declared.error.Error.{Error}
use Rattle.kmip_ttlv_base.specs.declared.error.ErrorKind.{ErrorKind}
use Rattle.kmip_ttlv_base.specs.declared.error.ErrorKind.TheVariants as kinds
use Rattle.kmip_ttlv_base.specs.Errors.{kind_of}
use Rattle.kmip_ttlv_parts.specs.declared.boxed.Boxed.{Boxed}
use Rattle.kmip_ttlv_parts.specs.declared.enumeration.Enumeration.{Enumeration}
use Rattle.kmip_headers.specs.declared.header.MessageExtension.{MessageExtension}
use Rattle.kmip_requests.specs.declared.request_payload.RequestPayload.{RequestPayload}
use Rattle.kmip_requests.specs.declared.request_payload.RequestPayload.TheVariants as request_payload
use Rattle.kmip_responses.specs.declared.response_payload.ResponsePayload.{ResponsePayload}
use Rattle.kmip_messages.specs.declared.envelope.RequestEnvelopeItem.{RequestEnvelopeItem}
use Rattle.kmip_messages.specs.declared.request.RequestItem.{RequestItem}
use Rattle.kmip_messages.specs.declared.response.ResponseItem.{ResponseItem}
use Rattle.kmip_server.specs.declared.refusal.Refusal.{Refusal}
use Rattle.kmip_server.specs.Refusals.{IsRefusedFor, message_of, reason_of, feature_not_supported, general_failure, invalid_message, operation_not_supported}
use Rattle.kmip_server.specs.Abilities.{AnswersQuery, AnswersVersions, Declaration, is_among}

-- why what can't be decoded is refused: a General Failure if memory ran out, otherwise an Invalid Message
abbrev pub reason_by_kind : {A : Type 0} → ErrorKind A → ℕ
reason_by_kind kinds.OutOfMemory = general_failure
reason_by_kind _ = invalid_message

abbrev pub reason_for : {A : Type 0} → Error A → ℕ
reason_for e = reason_by_kind (kind_of e)

-- whether an extension is there that has to be understood
abbrev pub is_critical : {A : Type 0} → Option (Boxed (MessageExtension A) A) → Bool
is_critical None = false
is_critical (Some extension) = extension.inner.value.criticality_indicator

-- refused for this reason, and nothing was done
pub record RefusesFor {H T : Type 0} (reason : ℕ) (old : H) (done : Result T Refusal) (new : H) : Type 0 where
  pub refused : IsRefusedFor reason done
  pub unchanged : new ≡ old

-- answered by the server itself, and nothing was done
pub record Tells {H : Type 0} (told : Type 0) (old new : H) : Type 0 where
  pub answer : told
  pub unchanged : new ≡ old

module _ {H A : Type 0} (Does : H → Enumeration 0x42005C → RequestPayload A → Result (ResponsePayload A) Refusal → H → Type 0)
    (declaration : H → Declaration) where
  -- what is done of a payload: Query and Discover Versions are answered from what the handler declares, and the handler does any other
  abbrev pub Performs : H → Enumeration 0x42005C → RequestPayload A → Result (ResponsePayload A) Refusal → H → Type 0
  Performs old operation (request_payload.Query query) done new = Tells (AnswersQuery (declaration old) query done) old new
  Performs old operation (request_payload.DiscoverVersions known) done new = Tells (AnswersVersions (declaration old) known done) old new
  Performs old operation asked done new = Does old operation asked done new

  -- what is done of an item as it is decoded
  abbrev pub Follows : H → Result (RequestItem A) (Error A) → Result (ResponsePayload A) Refusal → H → Type 0
  Follows old (Ok item) done new =
      MatchBool (is_critical item.message_extension) (RefusesFor feature_not_supported old done new) (Performs old item.operation item.payload done new)
  Follows old (Err e) done new = RefusesFor (reason_for e) old done new

  -- what is done of an item: one of an operation that the handler doesn't declare is refused, and any other is decoded
  abbrev pub IsDone : (RequestEnvelopeItem A → Result (RequestItem A) (Error A) → Type 0)
      → H → RequestEnvelopeItem A → Result (ResponsePayload A) Refusal → H → Type 0
  IsDone Reads old item done new =
      MatchBool (is_among item.operation (declaration old).operations)
      ((read : Result (RequestItem A) (Error A)) × Reads item read × Follows old read done new)
      (RefusesFor operation_not_supported old done new)

-- an answer says that the item failed, and why
pub record SaysRefused {A : Type 0} (refusal : Refusal) (answer : ResponseItem A) : Type 0 where
  pub status : answer.result_status.number ≡ 1
  pub reason : answer.result_reason ≡ Some refusal.reason
  pub message : option_map string_bytes answer.result_message ≡ Some (message_of refusal)
  pub payload : answer.payload ≡ None
  pub correlation : answer.asynchronous_correlation_value ≡ None
  pub extension : answer.message_extension ≡ None

-- an answer says that the item is done, with this payload
pub record SaysDone {A : Type 0} (payload : ResponsePayload A) (answer : ResponseItem A) : Type 0 where
  pub status : answer.result_status.number ≡ 0
  pub reason : answer.result_reason ≡ None
  pub message : answer.result_message ≡ None
  pub payload_is : answer.payload ≡ Some payload
  pub correlation : answer.asynchronous_correlation_value ≡ None
  pub extension : answer.message_extension ≡ None

-- an answer with this payload wouldn't be sound: so one of another operation than the item's
pub record IsUnfit {A : Type 0} (IsSound : ResponseItem A → Type 0) (payload : ResponsePayload A) (operation : Enumeration 0x42005C) : Type 0 where
  pub answer : ResponseItem A
  pub says : SaysDone payload answer
  pub operation_is : answer.operation ≡ Some operation
  pub unsound : IsSound answer → ⊥

-- a General Failure in the place of a payload that would not be sound
pub record SaysUnfit {A : Type 0} (IsSound : ResponseItem A → Type 0) (payload : ResponsePayload A) (operation : Enumeration 0x42005C) (answer : ResponseItem A) : Type 0 where
  pub unfit : IsUnfit IsSound payload operation
  pub refusal : Refusal
  pub reason : reason_of refusal ≡ general_failure
  pub says : SaysRefused refusal answer

-- a sound answer, with this payload
pub record SaysWhole {A : Type 0} (IsSound : ResponseItem A → Type 0) (payload : ResponsePayload A) (answer : ResponseItem A) : Type 0 where
  pub says : SaysDone payload answer
  pub sound : IsSound answer

-- an answer says what was done. A payload that wouldn't be sound is never sent
abbrev pub Says : {A : Type 0} → (ResponseItem A → Type 0) → Enumeration 0x42005C → Result (ResponsePayload A) Refusal → ResponseItem A → Type 0
Says IsSound operation (Ok payload) answer = SaysWhole IsSound payload answer ⊎ SaysUnfit IsSound payload operation answer
Says IsSound operation (Err refusal) answer = SaysRefused refusal answer

-- the answer to an item: under its operation and its identifier it says what was done
pub record IsAnswerTo {A : Type 0} (IsSound : ResponseItem A → Type 0) (operation : Enumeration 0x42005C) (id : Option (List ℕ))
    (done : Result (ResponsePayload A) Refusal) (answer : ResponseItem A) : Type 0 where
  pub operation_is : answer.operation ≡ Some operation
  pub identifier_is : option_map vec_items answer.unique_batch_item_id ≡ id
  pub says : Says IsSound operation done answer

-- the identifier of an item
abbrev pub identifier_of : {A : Type 0} → RequestEnvelopeItem A → Option (List ℕ)
identifier_of item = option_map vec_items item.unique_batch_item_id

-- From old an item has this answer, and leads to new: what was done of it is answered
pub record Answers {H A : Type 0} (Done : H → RequestEnvelopeItem A → Result (ResponsePayload A) Refusal → H → Type 0) (IsSound : ResponseItem A → Type 0)
    (old : H) (item : RequestEnvelopeItem A) (answer : ResponseItem A) (new : H) : Type 0 where
  pub outcome : Result (ResponsePayload A) Refusal
  pub done : Done old item outcome new
  pub answered : IsAnswerTo IsSound item.operation (identifier_of item) outcome answer

-- From old an item has no answer, since memory ran out, and leads to new: nothing was done of it, or all of it
abbrev pub IsUnanswered : {H A : Type 0} → (H → RequestEnvelopeItem A → Result (ResponsePayload A) Refusal → H → Type 0) → H → RequestEnvelopeItem A → H → Type 0
IsUnanswered {A = A} Done old item new = (new ≡ old) ⊎ ((outcome : Result (ResponsePayload A) Refusal) × Done old item outcome new)

-- no item is done behind this answer: it failed, and the batch stops at the first that does
abbrev pub ends : {A : Type 0} → Bool → ResponseItem A → Bool
ends stops answer = if stops then nat_eq answer.result_status.number 1 else false
