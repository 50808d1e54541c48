use Rattle.std.proofs.Common.{inr}
use Rattle.kmip_server.specs.Refusals.{reason_of}
use Rattle.kmip_server.specs.Replies.{SendsRefusal}
use Rattle.kmip_server.proofs.Sending.{at_error, beyond_limit, lost_to_memory, within_limit}
use Rattle.kmip_server.proofs.reply.refusal_bytes.Goals as goal

pub returns-in-Some-clause-refusal : goal.returns-in-Some-clause-refusal
returns-in-Some-clause-refusal g c = record {
  response = c.in_ok-response.response;
  refuses = c.in_ok-response.ensures;
  is = within_limit _ _ _ _ c.in-Some.is c.in_ok-bytes.ensures;
}

pub returns-clause-refusal : goal.returns-clause-refusal
returns-clause-refusal g c = record {
  response = c.in_ok-response.response;
  refuses = c.in_ok-response.ensures;
  is = beyond_limit _ _ _ c.in-None.is c.in_ok-bytes.ensures;
}

pub returns-in_err-response-clause-refusal : goal.returns-in_err-response-clause-refusal
returns-in_err-response-clause-refusal g c = lost_to_memory _ _ _ _ _ c.from_residual.ensures.1

pub returns-in_err-bytes-clause-refusal : goal.returns-in_err-bytes-clause-refusal
returns-in_err-bytes-clause-refusal g c =
    at_error (SendsRefusal g.D.Codec.stated c.args.version (reason_of c.args.refusal) c.args.limit) _ _ c.from_residual-in_err-bytes.ensures.1
    (inr record { response = c.in_ok-response.response; refuses = c.in_ok-response.ensures; is = c.in_err-bytes.ensures })
