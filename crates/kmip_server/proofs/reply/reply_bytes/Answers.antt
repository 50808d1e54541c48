use Rattle.std.proofs.Common.{◌≤◌, ◌∙◌, Err, Ok, ap, arith, length}
use Rattle.std.proofs.lemmas.Result.{IfOk-weaker}
use Rattle.kmip_server.specs.Abilities.{Declaration}
use Rattle.kmip_server.specs.Messages.{best}
use Rattle.kmip_server.proofs.Sending.{sends_refusal_as}
use Rattle.kmip_server.proofs.reply.reply_bytes.Goals as goal

pub returns-in-Ok-clause-within : goal.returns-in-Ok-clause-within
returns-in-Ok-clause-within g c =
    let below = c.in-Ok.ensures.within in
    IfOk-weaker _ (λ bytes. length bytes.items ≤ c.in-Ok.reply.limit) (λ bytes. length bytes.items ≤ c.args.limit) (λ bytes fits. omega arith)
    c.sent.ensures.within

pub returns-in-Ok-clause-sends : goal.returns-in-Ok-clause-sends
returns-in-Ok-clause-sends g c = record { reply = Ok c.in-Ok.reply; replies = c.in-Ok.ensures.replies; is_sent = c.sent.ensures.sent }

pub returns-in-Err-clause-sends : goal.returns-in-Err-clause-sends
returns-in-Err-clause-sends g c =
    let own = c.best-version.ensures ∙ ap (λ (d : Declaration). best d.versions) c.abilities.ensures in
    record {
      reply = Err c.in-Err.error;
      replies = c.in-Err.ensures.replies;
      is_sent = sends_refusal_as _ _ _ _ _ _ _ own c.from.ensures c.refusal_bytes.ensures.refusal;
    }
