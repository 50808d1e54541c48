use Rattle.std.proofs.Common.{ap, map, rules, string_bytes, ◌∙◌}
use Rattle.std.proofs.lemmas.List.{take_all}
use Rattle.kmip_operations.proofs.Tags.{refers_to}
use Rattle.kmip_operations.proofs.tagging.referring.Goals as goal

pub returns-in-Ok : goal.returns-in-Ok
returns-in-Ok g c =
    refers_to _ _ _ _
    (ap (map (λ text. text.now)) c.as_slice.ensures.value ∙ c.loop-name.invariant
    ∙ ap (map string_bytes) (take_all c.loop-name.name-index c.args.names.now (search rules)))
    c.in-Ok.ensures
