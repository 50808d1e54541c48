-- The answer in the place of one that would not be sound.
use Rattle.std.proofs.Common.{◌≡◌, ◌∙◌, ℕ, List, Option, Some, Result, Ok, Err, ap, inr}
use Rattle.std.specs.Prelude.{IfOk, option_map, vec_items}
use Rattle.std.specs.declared.alloc.AllocError.{AllocError}
use Rattle.kmip_ttlv_parts.specs.declared.enumeration.Enumeration.{Enumeration}
use Rattle.kmip_responses.specs.declared.response_payload.ResponsePayload.{ResponsePayload}
use Rattle.kmip_messages.specs.declared.response.ResponseItem.{ResponseItem}
use Rattle.kmip_server.specs.declared.refusal.Refusal.{Refusal}
use Rattle.kmip_server.specs.Items.{IsAnswerTo, SaysDone, SaysRefused}
use Rattle.kmip_server.specs.Refusals.{general_failure, reason_of}

-- a payload whose answer is not sound is answered by a General Failure
pub unfit_answer : {A : Type 0} (IsSound : ResponseItem A → Type 0) (operation : Enumeration 0x42005C) (id : Option (List ℕ)) (payload : ResponsePayload A)
    (whole : ResponseItem A) (refusal : Refusal) → whole.operation ≡ Some operation → option_map vec_items whole.unique_batch_item_id ≡ id
    → SaysDone payload whole → (IsSound whole → ⊥) → reason_of refusal ≡ general_failure
    → (r : Result (ResponseItem A) AllocError) → IfOk r (λ answer. answer.operation ≡ Some operation)
    → IfOk r (λ answer. answer.unique_batch_item_id ≡ whole.unique_batch_item_id) → IfOk r (SaysRefused refusal)
    → IfOk r (IsAnswerTo IsSound operation id (Ok payload))
unfit_answer IsSound operation id payload whole refusal operation_is id_is done unsound reason (Ok answer) same_operation same_id says = record {
  operation_is = same_operation;
  identifier_is = ap (λ found. option_map vec_items found) same_id ∙ id_is;
  says = inr record {
    unfit = record { answer = whole; says = done; operation_is = operation_is; unsound = unsound };
    refusal = refusal;
    reason = reason;
    says = says;
  };
}
unfit_answer IsSound operation id payload whole refusal operation_is id_is done unsound reason (Err e) same_operation same_id says = tt
