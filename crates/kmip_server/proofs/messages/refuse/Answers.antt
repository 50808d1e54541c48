use Rattle.std.proofs.Common.{◌∷◌, ◌++◌, [], ◌∙◌, ap, refl}
use Rattle.kmip_server.proofs.messages.refuse.Goals as goal

pub returns : goal.returns
returns g c = record {
  header = record {
    version_is = c.new-header.ensures.version;
    nonce = c.new-header.ensures.nonce;
    password = c.new-header.ensures.password;
    attestation = c.new-header.ensures.attestation;
    client = c.new-header.ensures.client;
    server = c.new-header.ensures.server;
  };
  counted = c.new-header.ensures.items;
  item = c.in_ok-refused.field-0;
  items_are = c.in_ok-push.ensures.items ∙ ap (λ items. items ++ c.in_ok-refused.field-0 ∷ []) c.new-items.ensures.items;
  operation_is = c.in_ok-refused.ensures.operation;
  identifier_is = c.in_ok-refused.ensures.identifier;
  refusal = c.args.refusal;
  reason_is = refl;
  says = c.in_ok-refused.ensures.says;
}
