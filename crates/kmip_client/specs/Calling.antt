-- One call: what is asked for, and what is returned of the answer.
use Rattle.std.specs.Prelude.{◌≡◌, ◌⊎◌, ℕ, Some, Result, Ok, Err}
use Rattle.kmip_ttlv_base.specs.Errors.{IsMemory}
use Rattle.kmip_ttlv_base.specs.declared.error.Error.{Error}
use Rattle.kmip_headers.specs.declared.header.ProtocolVersion.{ProtocolVersion}
use Rattle.kmip_messages.specs.declared.request.Request.{Request}
use Rattle.kmip_messages.specs.declared.response.Response.{Response}
use Rattle.kmip_requests.specs.declared.request_payload.RequestPayload.{RequestPayload}
use Rattle.kmip_responses.specs.declared.response_payload.ResponsePayload.{ResponsePayload}
use Rattle.kmip_client.specs.declared.failure.Failure.{Failure}
use Rattle.kmip_client.specs.declared.failure.Failure.TheVariants as failures
use Rattle.kmip_client.specs.Asking.{Asks, AsksOne}
use Rattle.kmip_client.specs.Refusals.{IsUnmade}

-- this was asked for, by this operation, in this version, with this result
pub record Called {A R : Type 0} (Exchanges : Request A → Result (Response A) (Failure A) → Type 0) (AsksNothing : Type 0) (version : ProtocolVersion)
    (operation : ℕ) (into : R → RequestPayload A) (IsAsked : R → Type 0) (result : Result (ResponsePayload A) (Failure A)) : Type 0 where
  pub asked : R
  pub is_asked : IsAsked asked
  pub asks : Asks Exchanges AsksNothing (AsksOne version operation (into asked)) result

-- a payload of another kind came
pub record OtherCame {A T : Type 0} (Calls : Result (ResponsePayload A) (Failure A) → Type 0) (as_payload : T → ResponsePayload A)
    (f : Failure A) : Type 0 where
  pub payload : ResponsePayload A
  pub came : Calls (Ok payload)
  pub is_other : (x : T) → payload ≡ as_payload x → ⊥
  pub failure : f ≡ failures.OtherPayload (Some payload)

-- what a call returns: the payload of its kind that came; or why none did
abbrev pub Gives : {A T : Type 0} → (Result (ResponsePayload A) (Failure A) → Type 0) → Type 0 → (Error A → Type 0) → (T → ResponsePayload A)
    → Result T (Failure A) → Type 0
Gives Calls AsksNothing CantAsk as_payload (Ok x) = Calls (Ok (as_payload x))
Gives Calls AsksNothing CantAsk as_payload (Err f) = Calls (Err f) ⊎ (OtherCame Calls as_payload f ⊎ (IsUnmade CantAsk f × AsksNothing))

-- one call, by what exchanges there are from its beginning to its end, and by why it may not be made
abbrev pub CallsUnless : {A R T : Type 0} → (Request A → Result (Response A) (Failure A) → Type 0) → Type 0 → ProtocolVersion → ℕ → (R → RequestPayload A)
    → (R → Type 0) → (Error A → Type 0) → (T → ResponsePayload A) → Result T (Failure A) → Type 0
CallsUnless Exchanges AsksNothing version operation into IsAsked CantAsk as_payload result =
    Gives (Called Exchanges AsksNothing version operation into IsAsked) AsksNothing CantAsk as_payload result

-- the same of one that is made unless memory runs out
abbrev pub Calls : {A R T : Type 0} → (Request A → Result (Response A) (Failure A) → Type 0) → Type 0 → ProtocolVersion → ℕ → (R → RequestPayload A)
    → (R → Type 0) → (T → ResponsePayload A) → Result T (Failure A) → Type 0
Calls Exchanges AsksNothing version operation into IsAsked as_payload result =
    Gives (Called Exchanges AsksNothing version operation into IsAsked) AsksNothing (λ e. IsMemory e) as_payload result
