use Rattle.kmip_operations.proofs.about.About.template.Goals as goal

pub returns-clause-kind : goal.returns-clause-kind
returns-clause-kind g c = c.in_ok-attributes.ensures.grows.kind
