use Rattle.kmip_operations.proofs.Listed.{about_listed}
use Rattle.kmip_operations.proofs.attributes.Listing.about.Goals as goal

pub returns : goal.returns
returns g c = about_listed c.args.about.now c.in_ok-add.ensures c.in_ok-algorithm.ensures c.in_ok-number.ensures c.in_ok-number-2.ensures
