use Rattle.std.proofs.Common.{inl}
use Rattle.kmip_server.specs.Replies.{IsSent}
use Rattle.kmip_server.proofs.Sending.{at_error}
use Rattle.kmip_server.proofs.reply.sent.Goals as goal

pub returns-in_err-bytes-clause-sent : goal.returns-in_err-bytes-clause-sent
returns-in_err-bytes-clause-sent g c = at_error (IsSent g.D.Codec.stated c.args.reply.now) _ _ c.from_residual.ensures.1 (inl c.in_err-bytes.ensures)
