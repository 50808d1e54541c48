use Rattle.std.proofs.Common.{inl, inr, refl, subst, w32}
use Rattle.std.proofs.lemmas.Int.{to_z-of_z}
use Rattle.kmip_attribute_set.specs.Attributes.{AreOfKey}
use Rattle.kmip_requests.specs.declared.request_payload.RequestPayload.TheVariants as requests
use Rattle.kmip_responses.specs.declared.response_payload.ResponsePayload.TheVariants as responses
use Rattle.kmip_client.proofs.Widening.{calls_wider, out_of_memory}
use Rattle.kmip.proofs.asking.make.Goals as goal

pub returns : goal.returns
returns g c =
    let key = c.args.key.now in
    let given = c.in_ok-attributes.attributes in
    let are : AreOfKey key.algorithm c.args.length key.usage key.name.now given.list.items =
    subst (λ z. AreOfKey key.algorithm z key.usage key.name.now given.list.items) (to_z-of_z w32 c.args.length c.ranges.length) c.in_ok-attributes.ensures in
    calls_wider _ _ _ _ requests.Create responses.Create (λ x is. record { attributes = given; are_of_key = are; is_create = is })
    (λ e cant. inr (given, are, cant)) c.create.result c.create.ensures.calls

pub returns-in_err-attributes : goal.returns-in_err-attributes
returns-in_err-attributes g c = out_of_memory _ _ _ _ requests.Create _ responses.Create (λ e m. inl m) c.from_residual.result c.from_residual.ensures.1 refl
