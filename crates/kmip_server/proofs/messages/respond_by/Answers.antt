use Rattle.std.proofs.Common.{rules, ◌≡◌, true, Err, Ok, length, refl, subst}
use Rattle.kmip_server.specs.Messages.{Terms}
use Rattle.kmip_server.proofs.messages.respond_by.Goals as goal

pub returns : goal.returns
returns g c =
    let counted : c.len.result ≡ length c.args.items.items = search rules in
    let admitted : c.admits.result ≡ true = search rules in
    let header = c.args.header.now in (
      Ok c.in-Ok.stops,
      subst (λ n. Terms header n (Ok c.in-Ok.stops)) counted c.in-Ok.ensures,
      (
        true,
        c.admits.new.self,
        subst (λ b. g.H.Handler.Admits c.args.handler.now header b c.admits.new.self) admitted c.admits.ensures,
        record { is = c.response.ensures.is; answers = rw c.response.ensures.items c.in_ok-answers.ensures.answered },
      ),
    )

pub returns-in-Err : goal.returns-in-Err
returns-in-Err g c =
    let counted : c.len.result ≡ length c.args.items.items = search rules in
    let header = c.args.header.now in (
      Err c.in-Err.refusal,
      subst (λ n. Terms header n (Err c.in-Err.refusal)) counted c.in-Err.ensures,
      record { refuses = c.refuse.ensures; unchanged = refl },
    )
