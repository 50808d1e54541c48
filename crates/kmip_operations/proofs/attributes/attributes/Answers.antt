use Rattle.std.proofs.Common.{◌++◌, ap, map, ◌∙◌}
use Rattle.kmip_operations.specs.Listing.{asked_of, own, saying_of}
use Rattle.kmip_operations.proofs.Listed.{own_listed}
use Rattle.kmip_operations.proofs.attributes.attributes.Goals as goal

pub returns : goal.returns
returns g c =
    let all = own_listed c.args.id c.args.object.now _ _ _ c.in_ok-identifier.ensures c.number.ensures c.as_slice.ensures.value
    c.in_ok-add.ensures c.in_ok-names.ensures
    c.in_ok-about.ensures c.in_ok-add-2.ensures c.in_ok-dates.ensures in
    all.listed ∙ ap (λ l. map saying_of l ++ asked_of c.args.names.now (own c.args.id c.args.object.now)) c.new.ensures.items
