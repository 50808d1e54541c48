-- What is refused as a whole.
use Rattle.std.proofs.Common.{◌≡◌, ◌∙◌, ℕ, Result, Err, subst, sym}
use Rattle.std.specs.declared.alloc.AllocError.{AllocError}
use Rattle.kmip_ttlv_base.specs.declared.error.Error.{Error}
use Rattle.kmip_headers.specs.declared.header.ProtocolVersion.{ProtocolVersion}
use Rattle.kmip_messages.specs.declared.envelope.RequestEnvelope.{RequestEnvelope}
use Rattle.kmip_messages.specs.declared.response.Response.{Response}
use Rattle.kmip_server.specs.declared.messages.Reply.{Reply}
use Rattle.kmip_server.specs.Abilities.{Declaration}
use Rattle.kmip_server.specs.Messages.{Refuses}
use Rattle.kmip_server.specs.Replies.{RepliesToRead}

-- a refusal in the version and for the reason that are known
pub refuses_as : {A : Type 0} (version version' : ProtocolVersion) (reason reason' : ℕ) (response : Response A) → version ≡ version' → reason ≡ reason'
    → Refuses version reason response → Refuses version' reason' response
refuses_as version version' reason reason' response versions reasons r = record {
  header = record {
    version_is = r.header.version_is ∙ versions;
    nonce = r.header.nonce;
    password = r.header.password;
    attestation = r.header.attestation;
    client = r.header.client;
    server = r.header.server;
  };
  counted = r.counted;
  item = r.item;
  items_are = r.items_are;
  operation_is = r.operation_is;
  identifier_is = r.identifier_is;
  refusal = r.refusal;
  reason_is = r.reason_is ∙ reasons;
  says = r.says;
}

-- what was read is no request
pub refuses_read : {H A : Type 0} (Replies : H → RequestEnvelope A → Result (Reply A) AllocError → H → Type 0) (declaration : H → Declaration)
    (limit : ℕ) (old : H) (read : Result (RequestEnvelope A) (Error A)) (e : Error A) (reply : Result (Reply A) AllocError) (new : H) → read ≡ Err e
    → RepliesToRead Replies declaration limit old (Err e) reply new → RepliesToRead Replies declaration limit old read reply new
refuses_read {A = A} Replies declaration limit old read e reply new is refuses =
    let P : Result (RequestEnvelope A) (Error A) → Type 0 = λ r. RepliesToRead Replies declaration limit old r reply new in
    subst P (sym is) refuses
