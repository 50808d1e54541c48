use Rattle.std.proofs.Common.{◌∙◌, ◌≡◌, ◌*◌, pos, length, inl, inr, refl, subst, to_z, of_z, w32}
use Rattle.std.proofs.lemmas.Int.{to_z-of_z}
use borrow.Author.Rules.{sfits_of}
use Rattle.kmip_attribute_set.specs.Attributes.{AreOfKey}
use Rattle.kmip_client.specs.Payloads.{IsRawKey}
use Rattle.kmip_requests.specs.declared.request_payload.RequestPayload.TheVariants as requests
use Rattle.kmip_responses.specs.declared.response_payload.ResponsePayload.TheVariants as responses
use Rattle.kmip_client.proofs.Widening.{calls_wider, out_of_memory}
use Rattle.kmip.proofs.asking.keep.Goals as goal

pub returns : goal.returns
returns g c =
    let key = c.args.key.now in
    let given = c.in_ok-attributes.attributes in
    let bits = to_z-of_z w32 c.bits-length.result (sfits_of c.bits-length.type_inv) ∙ c.bits-length.ensures in
    let are : AreOfKey key.algorithm (pos (8 * length c.args.bytes.now)) key.usage key.name.now given.list.items =
    subst (λ z. AreOfKey key.algorithm z key.usage key.name.now given.list.items) bits c.in_ok-attributes.ensures in
    calls_wider _ _ _ _ requests.Register responses.Register (λ x is. record {
      block = c.in_ok-block.block;
      is_block = subst (λ z. IsRawKey key.algorithm z c.args.bytes.now c.in_ok-block.block) bits c.in_ok-block.ensures;
      attributes = given;
      are_of_key = are;
      is_register = is;
    })
    (λ e h. elim h [ inl m ↦ inl m | inr cant ↦ inr (given, are, cant) ]) c.register.result c.register.ensures.calls

pub returns-in_err-block : goal.returns-in_err-block
returns-in_err-block g c = out_of_memory _ _ _ _ requests.Register _ responses.Register (λ e m. inl m) c.from_residual.result c.from_residual.ensures.1 refl

pub returns-in_err-attributes : goal.returns-in_err-attributes
returns-in_err-attributes g c =
    out_of_memory _ _ _ _ requests.Register _ responses.Register (λ e m. inl m) c.from_residual-in_err-attributes.result
    c.from_residual-in_err-attributes.ensures.1 refl
