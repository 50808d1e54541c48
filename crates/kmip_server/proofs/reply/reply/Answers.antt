use Rattle.std.proofs.Common.{◌∙◌, ap, refl}
use Rattle.kmip_server.specs.Abilities.{Declaration}
use Rattle.kmip_server.specs.Items.{IsDone}
use Rattle.kmip_server.specs.Messages.{Replies, best}
use Rattle.kmip_server.proofs.Refusing.{refuses_as, refuses_read}
use Rattle.kmip_server.proofs.reply.reply.Goals as goal

pub returns-in_ok-response-in-Err-clause-replies : goal.returns-in_ok-response-in-Err-clause-replies
returns-in_ok-response-in-Err-clause-replies g c =
    let codec = g.D.Codec in
    let handler = g.H.Handler in
    let replies = Replies handler.Admits (IsDone handler.Does handler.declaration codec.ReadsItem) codec.IsSound codec.ReadsHeader
    handler.declaration c.args.limit in
    let own = c.best-version.ensures ∙ ap (λ (d : Declaration). best d.versions) c.abilities.ensures in
    refuses_read replies handler.declaration c.args.limit c.args.handler.now _ c.in-Err.error _ _ c.in-Err.is
    (record { refuses = refuses_as _ _ _ _ _ own c.unreadable.ensures c.in_ok-response-in-Err.ensures; unchanged = refl }, refl)
