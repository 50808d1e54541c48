use Rattle.std.proofs.Common.{◌<◌, ◌++◌, ap, length, map, rules, sym, take, ◌∙◌}
use Rattle.std.proofs.lemmas.List.{take_all}
use Rattle.kmip_memory_store.specs.Objects.{objects_of}
use Rattle.kmip_operations.specs.Finding.{found_from}
use Rattle.kmip_operations.specs.Listing.{saying_of}
use Rattle.kmip_operations.proofs.Found.{found_more, if_found}
use Rattle.kmip_operations.proofs.objects.Objects.found.Goals as goal

pub loop-id-preserved : goal.loop-id-preserved
loop-id-preserved g c =
    let objects = objects_of c.args.self.now.store in
    let sought = map saying_of c.args.sought.now in
    let within : c.loop-id.id < length objects = search rules in
    c.in_ok-push_found.ensures ∙ ap (λ l. l ++ if_found c.in_ok-is_found.is_found c.loop-id.id) c.loop-id.invariant
    ∙ ap (λ b. found_from sought 0 (take c.loop-id.id objects) ++ if_found b c.loop-id.id) c.in_ok-is_found.ensures
    ∙ sym (found_more sought c.loop-id.id objects within)

pub returns : goal.returns
returns g c =
    let objects = objects_of c.args.self.now.store in
    c.loop-id.invariant ∙ ap (found_from (map saying_of c.args.sought.now) 0) (take_all c.loop-id.id objects (search rules))
