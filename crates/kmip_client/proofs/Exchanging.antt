-- What is returned for a response that came is what the exchange returns.
use Rattle.std.proofs.Common.{Result, Ok, Err, IfOk, subst, sym}
use Rattle.kmip_ttlv_base.specs.declared.error.Error.{Error}
use Rattle.kmip_messages.specs.declared.request.Request.{Request}
use Rattle.kmip_messages.specs.declared.response.Response.{Response}
use Rattle.kmip_client.specs.declared.failure.Failure.{Failure}
use Rattle.kmip_client.specs.declared.failure.Failure.TheVariants as failures
use Rattle.kmip_client.specs.Answers.{AreAnswers}
use Rattle.kmip_client.specs.Exchanges.{Exchanged, IsJudged}

pub exchanged : {A : Type 0} (Sends : Result (Unit {0}) (Error A) → Type 0) (Takes : Result (Response A) (Error A) → Type 0) (TakesNothing : Type 0)
    (request : Request A) (response : Response A) (result : Result (Response A) (Failure A)) → Sends (Ok tt) → Takes (Ok response)
    → IsJudged request response result → Exchanged Sends Takes TakesNothing request result
exchanged S T N q r (Ok x) s t j = record { response = r; sent = s; came = t; judged = j }
exchanged S T N q r (Err (failures.Sending e)) s t j = absurd j
exchanged S T N q r (Err (failures.Receiving e)) s t j = absurd j
exchanged S T N q r (Err (failures.Refused f)) s t j = record { response = r; sent = s; came = t; judged = j }
exchanged S T N q r (Err (failures.Miscounted x)) s t j = record { response = r; sent = s; came = t; judged = j }
exchanged S T N q r (Err (failures.OtherVersion x)) s t j = record { response = r; sent = s; came = t; judged = j }
exchanged S T N q r (Err (failures.Unasked x)) s t j = record { response = r; sent = s; came = t; judged = j }
exchanged S T N q r (Err (failures.OtherPayload p)) s t j = absurd j
exchanged S T N q r (Err failures.NoCommonVersion) s t j = absurd j
exchanged S T N q r (Err (failures.BadAttributes e)) s t j = absurd j

-- what is judged to answer answers
pub answers_of : {A : Type 0} (request : Request A) (response : Response A) (result : Result (Response A) (Failure A)) → IsJudged request response result
    → IfOk result (λ r. AreAnswers request.items.items r.items.items)
answers_of q r (Ok x) j = subst (λ y. AreAnswers q.items.items y.items.items) (sym j.0) j.1.2
answers_of q r (Err f) j = tt
