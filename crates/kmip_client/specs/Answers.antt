-- When a response answers a request.
use Rattle.std.specs.Prelude.{◌≡◌, ◌⊎◌, ℕ, Bool, false, IsTrue, List, [], ◌∷◌, length, Option, Some, None, IfSome, option_map, pos, nat_eq}
use Rattle.std.specs.declared.vec.Vec.{Vec}
use Rattle.kmip_headers.specs.declared.header.ProtocolVersion.{ProtocolVersion}
use Rattle.kmip_ttlv_parts.specs.Returns.{text_of_number}
use Rattle.kmip_ttlv_parts.specs.declared.enumeration.Enumeration.{Enumeration}
use Rattle.kmip_messages.specs.declared.request.Request.{Request}
use Rattle.kmip_messages.specs.declared.request.RequestItem.{RequestItem}
use Rattle.kmip_messages.specs.declared.response.Response.{Response}
use Rattle.kmip_messages.specs.declared.response.ResponseItem.{ResponseItem}
use Rattle.kmip_responses.specs.declared.response_payload.ResponsePayload.{ResponsePayload}
use Rattle.kmip_responses.specs.Choices.{ChoosesResponsePayload}
use Rattle.kmip_client.specs.declared.answers.Verdict.{Verdict}
use Rattle.kmip_client.specs.declared.answers.Verdict.TheVariants as verdicts

-- the bytes that name an item
abbrev pub name_of : {A : Type 0} → Option (Vec ℕ A) → Option (List ℕ)
name_of name = option_map (λ v. v.items) name

-- a payload, if there is one, is this operation's
abbrev pub is_payload_of : {A : Type 0} {t : ℕ} → Enumeration t → Option (ResponsePayload A) → Type 0
is_payload_of operation payload = IfSome payload (λ p. ChoosesResponsePayload (text_of_number operation.number) p)

-- an item of a response answers this item of a request
pub record IsAnswer {A : Type 0} (asked : RequestItem A) (item : ResponseItem A) : Type 0 where
  pub operation : item.operation ≡ Some asked.operation
  pub name : name_of asked.unique_batch_item_id ≡ name_of item.unique_batch_item_id
  pub payload : is_payload_of asked.operation item.payload

-- whether an operation failed
abbrev pub has_failed : {A : Type 0} → ResponseItem A → Bool
has_failed item = nat_eq item.result_status.number 1

-- each item that was asked for is answered by the one at its place, but that behind one that failed the others may be missing; the first flag says
-- whether what is before has failed
abbrev pub AnswersAfter : {A : Type 0} → Bool → List (RequestItem A) → List (ResponseItem A) → Type 0
AnswersAfter failed [] [] = Unit {0}
AnswersAfter failed (x ∷ asked) [] = IsTrue failed
AnswersAfter failed [] (y ∷ items) = ⊥
AnswersAfter failed (x ∷ asked) (y ∷ items) = IsAnswer x y × AnswersAfter (has_failed y) asked items

-- items of a response answer those of a request: each the one at its place, and all of them, but that behind one that failed the others may be missing
abbrev pub AreAnswers : {A : Type 0} → List (RequestItem A) → List (ResponseItem A) → Type 0
AreAnswers asked items = AnswersAfter false asked items

-- the Batch Count is the number of items
abbrev pub IsCounted : {A : Type 0} → Response A → Type 0
IsCounted response = response.header.batch_count ≡ pos (length response.items.items)

-- each item says that its operation failed
abbrev pub AllFailed : {A : Type 0} → List (ResponseItem A) → Type 0
AllFailed [] = Unit {0}
AllFailed (item ∷ items) = IsTrue (has_failed item) × AllFailed items

-- a response is of the request's version, or says only that all has failed
abbrev pub IsOfVersion : {A : Type 0} → ProtocolVersion → Response A → Type 0
IsOfVersion version response = (response.header.version ≡ version) ⊎ AllFailed response.items.items

-- these items refuse a request as a whole: there is one, of no operation, and it says that it failed
abbrev pub RefusesWhole : {A : Type 0} → List (ResponseItem A) → Type 0
RefusesWhole [] = ⊥
RefusesWhole (item ∷ []) = (item.operation ≡ None) × IsTrue (has_failed item)
RefusesWhole (item ∷ next ∷ items) = ⊥

-- what a response is to a request
abbrev pub IsVerdict : {A : Type 0} → Request A → Response A → Verdict → Type 0
IsVerdict request response verdicts.Answers =
    IsCounted response × IsOfVersion request.header.version response × AreAnswers request.items.items response.items.items
IsVerdict request response verdicts.Refuses = IsCounted response × RefusesWhole response.items.items
IsVerdict request response verdicts.Miscounted = IsCounted response → ⊥
IsVerdict request response verdicts.OtherVersion = IsCounted response × (IsOfVersion request.header.version response → ⊥)
IsVerdict request response verdicts.Unasked =
    IsCounted response × IsOfVersion request.header.version response
    × (AreAnswers request.items.items response.items.items → ⊥) × (RefusesWhole response.items.items → ⊥)
