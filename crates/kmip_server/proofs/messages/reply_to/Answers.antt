use Rattle.std.proofs.Common.{Err, Ok, refl}
use Rattle.kmip_server.proofs.messages.reply_to.Goals as goal

pub returns-in_ok-response-in-Ok-clause-replies : goal.returns-in_ok-response-in-Ok-clause-replies
returns-in_ok-response-in-Ok-clause-replies g c =
    (Ok c.in-Ok.header, c.in-Ok.ensures, (c.in_ok-response-in-Ok.ensures, c.limit_for-limit.ensures.value))

pub returns-in_ok-response-in-Err-clause-replies : goal.returns-in_ok-response-in-Err-clause-replies
returns-in_ok-response-in-Err-clause-replies g c =
    (Err c.in-Err.refusal, c.in-Err.ensures, (record { refuses = c.in_ok-response-in-Err.ensures; unchanged = refl }, refl))
