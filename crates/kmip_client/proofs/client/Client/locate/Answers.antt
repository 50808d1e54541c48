use Rattle.std.proofs.Common.{◌∙◌, ◌∷◌, ◌++◌, [], ap, inl, inr, refl}
use Rattle.kmip_requests.specs.declared.request_payload.RequestPayload.TheVariants as requests
use Rattle.kmip_responses.specs.declared.response_payload.ResponsePayload.TheVariants as responses
use Rattle.kmip_client.specs.Payloads.{IsOnlyName}
use Rattle.kmip_client.proofs.Widening.{calls_wider, out_of_memory}
use Rattle.kmip_client.proofs.client.Client.locate.Goals as goal

pub returns-clause-calls : goal.returns-clause-calls
returns-clause-calls g c =
    let given = c.in_ok-attributes.attributes in
    let h = c.in_ok-attributes.ensures in
    let only : IsOnlyName c.args.name.now given = record {
      name = h.attribute;
      list_is = h.list_is ∙ ap (λ l. l ++ h.attribute ∷ []) c.new.ensures;
      name_is = h.is_so;
    } in
    calls_wider _ _ _ _ requests.Locate responses.Locate (λ x is. (given, only, is)) (λ e cant. inr (given, only, cant))
    c.locate_by.result c.locate_by.ensures.calls

pub returns-in_err-attributes-clause-calls : goal.returns-in_err-attributes-clause-calls
returns-in_err-attributes-clause-calls g c =
    out_of_memory _ _ _ _ requests.Locate _ responses.Locate (λ e m. inl m) c.from_residual.result c.from_residual.ensures.1 refl
