use Rattle.kmip_requests.specs.declared.request_payload.RequestPayload.TheVariants as requests
use Rattle.kmip_responses.specs.declared.response_payload.ResponsePayload.TheVariants as responses
use Rattle.kmip_client.proofs.Widening.{calls_wider}
use Rattle.kmip.proofs.asking.locate_all.Goals as goal

pub returns : goal.returns
returns g c = calls_wider _ _ _ _ requests.Locate responses.Locate (λ x is. (c.new-none.result, c.new-none.ensures, is))
    (λ e cant. (c.new-none.result, c.new-none.ensures, cant)) c.locate_by.result c.locate_by.ensures.calls
