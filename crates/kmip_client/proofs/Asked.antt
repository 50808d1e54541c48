-- What asking for one thing gives.
use Rattle.std.proofs.Common.{◌≡◌, ℕ, List, [], ◌∷◌, length, Option, Some, IfSome, Result, Ok, Err, IfOk, subst, refl}
use Rattle.std.proofs.Common.{inl}
use Rattle.kmip_headers.specs.declared.header.ProtocolVersion.{ProtocolVersion}
use Rattle.kmip_messages.specs.declared.request.Request.{Request}
use Rattle.kmip_messages.specs.declared.request.RequestItem.{RequestItem}
use Rattle.kmip_messages.specs.declared.response.Response.{Response}
use Rattle.kmip_messages.specs.declared.response.ResponseItem.{ResponseItem}
use Rattle.kmip_requests.specs.declared.request_payload.RequestPayload.{RequestPayload}
use Rattle.kmip_responses.specs.declared.response_payload.ResponsePayload.{ResponsePayload}
use Rattle.kmip_responses.specs.Choices.{ChoosesResponsePayload}
use Rattle.kmip_ttlv_parts.specs.Returns.{text_of_number}
use Rattle.kmip_client.specs.declared.failure.Failure.{Failure}
use Rattle.kmip_client.specs.Answers.{AreAnswers, IsAnswer}
use Rattle.kmip_client.specs.Asking.{Answered, Asks, AsksOne, Says}
use Rattle.kmip_client.specs.Calling.{Called}

one_of : {A : Type 0} (x : RequestItem A) (items : List (ResponseItem A)) → AreAnswers (x ∷ []) items → length items ≡ 1
one_of x [] none = cc none
one_of x (y ∷ []) h = refl
one_of x (y ∷ z ∷ items) h = absurd h.1

-- one thing has one answer
pub one_answer : {A : Type 0} {asked : List (RequestItem A)} (x : RequestItem A) (items : List (ResponseItem A)) → asked ≡ x ∷ [] → AreAnswers asked items
    → length items ≡ 1
one_answer x items e h = one_of x items (subst (λ a. AreAnswers a items) e h)

-- which answers it
pub the_answer : {A : Type 0} {asked : List (RequestItem A)} {items : List (ResponseItem A)} (x : RequestItem A) (y : ResponseItem A)
    → asked ≡ x ∷ [] → items ≡ y ∷ [] → AreAnswers asked items → IsAnswer x y
the_answer {items = items} x y e f h = (subst (λ i. AreAnswers (x ∷ []) i) f (subst (λ a. AreAnswers a items) e h)).0

-- what is said of an answer is returned
pub by_answer : {A : Type 0} (Exchanges : Request A → Result (Response A) (Failure A) → Type 0) (AsksNothing : Type 0) (IsRequest : Request A → Type 0)
    (r : Result (ResponsePayload A) (Failure A)) → Answered Exchanges IsRequest r → Asks Exchanges AsksNothing IsRequest r
by_answer Exchanges AsksNothing IsRequest (Ok payload) h = h
by_answer Exchanges AsksNothing IsRequest (Err f) h = inl h

chosen_in : {A : Type 0} (n : ℕ) (payload : Option (ResponsePayload A)) (p : ResponsePayload A) → payload ≡ Some p
    → IfSome payload (λ y. ChoosesResponsePayload (text_of_number n) y) → ChoosesResponsePayload (text_of_number n) p
chosen_in n payload p e h = subst (λ o. IfSome o (λ y. ChoosesResponsePayload (text_of_number n) y)) e h

-- what an answer says was done is of the operation that was asked for
pub chosen : {A : Type 0} (n : ℕ) (x : RequestItem A) (y : ResponseItem A) (r : Result (ResponsePayload A) (Failure A)) → Says y r → IsAnswer x y
    → x.operation.number ≡ n → IfOk r (λ done. ChoosesResponsePayload (text_of_number n) done)
chosen n x y (Ok payload) says answer e =
    subst (λ m. ChoosesResponsePayload (text_of_number m) payload) e (chosen_in x.operation.number y.payload payload says.1 answer.payload)
chosen n x y (Err f) says answer e = tt

-- what was asked for gave a payload, which is this one
pub called : {A R : Type 0} {Exchanges : Request A → Result (Response A) (Failure A) → Type 0} {AsksNothing : Type 0}
    {version : ProtocolVersion} {operation : ℕ} {into : R → RequestPayload A} {IsAsked : R → Type 0} (asked : R) {p q : ResponsePayload A} → IsAsked asked
    → Answered Exchanges (AsksOne version operation (into asked)) (Ok p) → p ≡ q → Called Exchanges AsksNothing version operation into IsAsked (Ok q)
called {Exchanges = Exchanges} {version = version} {operation = operation} {into = into} asked is_asked answered e = record {
  asked = asked;
  is_asked = is_asked;
  asks = subst (λ x. Answered Exchanges (AsksOne version operation (into asked)) (Ok x)) e answered;
}
