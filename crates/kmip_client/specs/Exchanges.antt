-- What becomes of a request.
use Rattle.std.specs.Prelude.{◌≡◌, [], ◌∷◌, Result, Ok, Err, map}
use Rattle.kmip_ttlv_base.specs.declared.error.Error.{Error}
use Rattle.kmip_messages.specs.declared.request.Request.{Request}
use Rattle.kmip_messages.specs.declared.response.Response.{Response}
use Rattle.kmip_client.specs.declared.answers.Verdict.TheVariants as verdicts
use Rattle.kmip_client.specs.declared.failure.Failure.{Failure}
use Rattle.kmip_client.specs.declared.failure.Failure.TheVariants as failures
use Rattle.kmip_client.specs.Answers.{IsVerdict}
use Rattle.kmip_client.specs.Refusals.{refusal_of}

-- what is returned for a response to a request: the response if it answers, what its one item says if that refuses the request, and else the response
-- as an error
abbrev pub IsJudged : {A : Type 0} → Request A → Response A → Result (Response A) (Failure A) → Type 0
IsJudged request response (Ok r) = (r ≡ response) × IsVerdict request response verdicts.Answers
IsJudged request response (Err (failures.Refused f)) = (map refusal_of response.items.items ≡ f ∷ []) × IsVerdict request response verdicts.Refuses
IsJudged request response (Err (failures.Miscounted r)) = (r ≡ response) × IsVerdict request response verdicts.Miscounted
IsJudged request response (Err (failures.OtherVersion r)) = (r ≡ response) × IsVerdict request response verdicts.OtherVersion
IsJudged request response (Err (failures.Unasked r)) = (r ≡ response) × IsVerdict request response verdicts.Unasked
IsJudged request response (Err (failures.Sending e)) = ⊥
IsJudged request response (Err (failures.Receiving e)) = ⊥
IsJudged request response (Err (failures.OtherPayload p)) = ⊥
IsJudged request response (Err failures.NoCommonVersion) = ⊥
IsJudged request response (Err (failures.BadAttributes e)) = ⊥

-- a request was sent, and a response to it came, for which this is returned
pub record Came {A : Type 0} (Sends : Result (Unit {0}) (Error A) → Type 0) (Takes : Result (Response A) (Error A) → Type 0) (request : Request A)
    (result : Result (Response A) (Failure A)) : Type 0 where
  pub response : Response A
  pub sent : Sends (Ok tt)
  pub came : Takes (Ok response)
  pub judged : IsJudged request response result

-- one exchange, by how sending ends, how taking a response ends, and that nothing is taken: the request is sent, then a response is taken, and what is
-- returned is by that alone
abbrev pub Exchanged : {A : Type 0} → (Result (Unit {0}) (Error A) → Type 0) → (Result (Response A) (Error A) → Type 0) → Type 0 → Request A
    → Result (Response A) (Failure A) → Type 0
Exchanged Sends Takes TakesNothing request (Err (failures.Sending e)) = Sends (Err e) × TakesNothing
Exchanged Sends Takes TakesNothing request (Err (failures.Receiving e)) = Sends (Ok tt) × Takes (Err e)
Exchanged Sends Takes TakesNothing request (Ok r) = Came Sends Takes request (Ok r)
Exchanged Sends Takes TakesNothing request (Err (failures.Refused f)) = Came Sends Takes request (Err (failures.Refused f))
Exchanged Sends Takes TakesNothing request (Err (failures.Miscounted r)) = Came Sends Takes request (Err (failures.Miscounted r))
Exchanged Sends Takes TakesNothing request (Err (failures.OtherVersion r)) = Came Sends Takes request (Err (failures.OtherVersion r))
Exchanged Sends Takes TakesNothing request (Err (failures.Unasked r)) = Came Sends Takes request (Err (failures.Unasked r))
Exchanged Sends Takes TakesNothing request (Err (failures.OtherPayload p)) = ⊥
Exchanged Sends Takes TakesNothing request (Err failures.NoCommonVersion) = ⊥
Exchanged Sends Takes TakesNothing request (Err (failures.BadAttributes e)) = ⊥
