-- Why there is no answer.
use Rattle.kmip_ttlv_base.specs.Errors.{IsMemory}
use Rattle.kmip_ttlv_base.specs.declared.error.Error.{Error}
use Rattle.kmip_messages.specs.declared.response.ResponseItem.{ResponseItem}
use Rattle.kmip_client.specs.declared.failure.Failure.{Failure}
use Rattle.kmip_client.specs.declared.failure.Failure.TheVariants as failures
use Rattle.kmip_client.specs.declared.failure.Refusal.{Refusal}

-- what an item says of its operation
abbrev pub refusal_of : {A : Type 0} → ResponseItem A → Refusal A
refusal_of item = record { status = item.result_status; reason = item.result_reason; message = item.result_message }

-- the request can't be made, for this reason
abbrev pub IsUnmade : {A : Type 0} → (Error A → Type 0) → Failure A → Type 0
IsUnmade CantAsk (failures.Sending e) = CantAsk e
IsUnmade CantAsk f = ⊥

-- there was no memory for a request
abbrev pub IsOutOfMemory : {A : Type 0} → Failure A → Type 0
IsOutOfMemory f = IsUnmade (λ e. IsMemory e) f

-- attributes of a response aren't what their tags say, for this reason
abbrev pub IsBad : {A : Type 0} → (Error A → Type 0) → Failure A → Type 0
IsBad CantTake (failures.BadAttributes e) = CantTake e
IsBad CantTake f = ⊥
