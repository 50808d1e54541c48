-- A call that asks for one thing asks for anything wider, and one without memory for nothing.
use Rattle.std.proofs.Common.{◌≡◌, ◌⊎◌, ℕ, Result, Ok, Err, IsErrAnd, inl, inr}
use Rattle.kmip_ttlv_base.specs.Errors.{IsMemory}
use Rattle.kmip_ttlv_base.specs.declared.error.Error.{Error}
use Rattle.kmip_headers.specs.declared.header.ProtocolVersion.{ProtocolVersion}
use Rattle.kmip_messages.specs.declared.request.Request.{Request}
use Rattle.kmip_messages.specs.declared.response.Response.{Response}
use Rattle.kmip_requests.specs.declared.request_payload.RequestPayload.{RequestPayload}
use Rattle.kmip_responses.specs.declared.response_payload.ResponsePayload.{ResponsePayload}
use Rattle.kmip_client.specs.declared.failure.Failure.{Failure}
use Rattle.kmip_client.specs.declared.failure.Failure.TheVariants as failures
use Rattle.kmip_client.specs.Calling.{Called, CallsUnless}
use Rattle.kmip_client.specs.Refusals.{IsOutOfMemory, IsUnmade}

called_wider : {A R : Type 0} {Exchanges : Request A → Result (Response A) (Failure A) → Type 0} {AsksNothing : Type 0} {version : ProtocolVersion}
    {operation : ℕ} {into : R → RequestPayload A} {IsAsked IsWider : R → Type 0} → ((x : R) → IsAsked x → IsWider x)
    → (r : Result (ResponsePayload A) (Failure A)) → Called Exchanges AsksNothing version operation into IsAsked r
    → Called Exchanges AsksNothing version operation into IsWider r
called_wider wider r c = record { asked = c.asked; is_asked = wider c.asked c.is_asked; asks = c.asks }

-- what can't be asked for, for one reason, can't be for a wider one
pub unmade_wider : {A : Type 0} {CantAsk CantWider : Error A → Type 0} → ((e : Error A) → CantAsk e → CantWider e) → (f : Failure A) → IsUnmade CantAsk f
    → IsUnmade CantWider f
unmade_wider wider (failures.Sending e) h = wider e h
unmade_wider wider (failures.Receiving e) h = absurd h
unmade_wider wider (failures.Refused f) h = absurd h
unmade_wider wider (failures.Miscounted r) h = absurd h
unmade_wider wider (failures.OtherVersion r) h = absurd h
unmade_wider wider (failures.Unasked r) h = absurd h
unmade_wider wider (failures.OtherPayload p) h = absurd h
unmade_wider wider (failures.BadAttributes e) h = absurd h
unmade_wider wider failures.NoCommonVersion h = absurd h

-- what is asked for is something wider
pub calls_wider : {A R T : Type 0} (Exchanges : Request A → Result (Response A) (Failure A) → Type 0) (AsksNothing : Type 0) (version : ProtocolVersion)
    (operation : ℕ) (into : R → RequestPayload A) {IsAsked IsWider : R → Type 0} {CantAsk CantWider : Error A → Type 0} (as_payload : T → ResponsePayload A)
    → ((x : R) → IsAsked x → IsWider x) → ((e : Error A) → CantAsk e → CantWider e) → (r : Result T (Failure A))
    → CallsUnless Exchanges AsksNothing version operation into IsAsked CantAsk as_payload r
    → CallsUnless Exchanges AsksNothing version operation into IsWider CantWider as_payload r
calls_wider Exchanges AsksNothing version operation into as_payload wider cant (Ok x) h = called_wider wider (Ok (as_payload x)) h
calls_wider Exchanges AsksNothing version operation into as_payload wider cant (Err f) (inl h) = inl (called_wider wider (Err f) h)
calls_wider Exchanges AsksNothing version operation into as_payload wider cant (Err f) (inr (inl h)) =
    inr (inl (record { payload = h.payload; came = called_wider wider (Ok h.payload) h.came; is_other = h.is_other; failure = h.failure }))
calls_wider Exchanges AsksNothing version operation into as_payload wider cant (Err f) (inr (inr h)) = inr (inr (unmade_wider cant f h.0, h.1))

-- nothing is asked for when memory runs out
pub out_of_memory : {A R T : Type 0} (Exchanges : Request A → Result (Response A) (Failure A) → Type 0) (AsksNothing : Type 0) (version : ProtocolVersion)
    (operation : ℕ) (into : R → RequestPayload A) (IsAsked : R → Type 0) {CantAsk : Error A → Type 0} (as_payload : T → ResponsePayload A)
    → ((e : Error A) → IsMemory e → CantAsk e) → (r : Result T (Failure A)) → IsErrAnd r (λ f. IsOutOfMemory f) → AsksNothing
    → CallsUnless Exchanges AsksNothing version operation into IsAsked CantAsk as_payload r
out_of_memory Exchanges AsksNothing version operation into IsAsked as_payload cant (Ok x) h nothing = absurd h
out_of_memory Exchanges AsksNothing version operation into IsAsked as_payload cant (Err f) h nothing = inr (inr (unmade_wider cant f h, nothing))
