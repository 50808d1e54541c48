use Rattle.std.proofs.Common.{option_map, ap, sym, ◌∙◌}
use Rattle.kmip_operations.proofs.Naming.{it_is_absent, none_is_meant}
use Rattle.kmip_operations.proofs.objects.Objects.find.Goals as goal

pub returns-in-None-get : goal.returns-in-None-get
returns-in-None-get g c =
    let absent = sym c.get.ensures ∙ ap (option_map (λ object. object.now)) c.in-None-get.is in
    (c.missing.ensures, it_is_absent c.args.self.now c.args.name.now c.in-Some.id c.in-Some.ensures.0 c.in-Some.ensures.1 absent)

pub returns-in-None : goal.returns-in-None
returns-in-None g c = (c.missing-in-None.ensures, none_is_meant c.args.self.now c.args.name.now c.in-None.ensures)
