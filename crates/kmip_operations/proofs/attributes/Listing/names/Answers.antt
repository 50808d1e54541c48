use Rattle.std.proofs.Common.{◌<◌, length, rules}
use Rattle.kmip_operations.proofs.Listed.{names_listed}
use Rattle.kmip_operations.proofs.attributes.Listing.names.Goals as goal

pub loop-index-preserved : goal.loop-index-preserved
loop-index-preserved g c =
    let within : c.loop-index.index < length c.args.names.now = search rules in
    names_listed c.args.names.now c.loop-index.index c.index-names-index.result within c.index-names-index.is c.loop-index.invariant
    c.in_ok-name.ensures
