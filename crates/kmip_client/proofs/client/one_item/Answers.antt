use Rattle.std.proofs.Common.{[], ◌∷◌, ◌++◌, ◌∙◌, ap}
use Rattle.kmip_client.proofs.client.one_item.Goals as goal

pub returns : goal.returns
returns g c = record {
  header = record {
    version_is = c.new-header.ensures.version;
    count = c.new-header.ensures.items;
    size = c.new-header.ensures.size;
    client = c.new-header.ensures.client;
    server = c.new-header.ensures.server;
    asynchronous = c.new-header.ensures.asynchronous;
    capable = c.new-header.ensures.capable;
    attestation = c.new-header.ensures.attestation;
    authentication = c.new-header.ensures.authentication;
    errors = c.new-header.ensures.errors;
    order = c.new-header.ensures.order;
    time = c.new-header.ensures.time;
  };
  item = c.new-item.result;
  items = c.in_ok-push.ensures.items ∙ ap (λ x. x ++ c.new-item.result ∷ []) c.new-items.ensures.items;
  operation_is = ap (λ x. x.number) c.new-item.ensures.operation;
  payload_is = c.new-item.ensures.payload;
  name = c.new-item.ensures.identifier;
  ephemeral = c.new-item.ensures.ephemeral;
  extension = c.new-item.ensures.extension;
}
