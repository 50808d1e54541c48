use Rattle.std.proofs.Common.{◌∙◌, ap, refl, sym}
use Rattle.kmip_server.specs.Abilities.{Declaration, speaks}
use Rattle.kmip_server.specs.Messages.{best}
use Rattle.kmip_server.proofs.Refusing.{refuses_as}
use Rattle.kmip_server.proofs.messages.respond.Goals as goal

pub returns-clause-replies : goal.returns-clause-replies
returns-clause-replies g c =
    let spoken = λ (d : Declaration). speaks d.versions c.args.request.header.version in
    let own = c.best-own.ensures ∙ ap (λ (d : Declaration). best d.versions) c.abilities-2.ensures in
    rw (ap spoken (sym c.abilities.ensures) ∙ sym c.speaks.ensures ∙ c.if-speaks.false)
    (record { refuses = refuses_as _ _ _ _ _ own c.new-refusal.ensures.reason c.in_ok-response.ensures; unchanged = refl }, refl)
