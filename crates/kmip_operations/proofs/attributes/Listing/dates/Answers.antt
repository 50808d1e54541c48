use Rattle.std.proofs.Common.{◌≡◌, of_z, rules, to_z, w64}
use Rattle.kmip_operations.proofs.Listed.{dates_listed}
use Rattle.kmip_operations.proofs.attributes.Listing.dates.Goals as goal

pub returns : goal.returns
returns g c =
    let first : to_z w64 (of_z w64 c.args.dates.initial) ≡ c.args.dates.initial = search rules in
    let last : to_z w64 (of_z w64 c.args.dates.last_change) ≡ c.args.dates.last_change = search rules in
    dates_listed c.args.dates _ _ first last c.in_ok-date.ensures c.in_ok-date-2.ensures c.in_ok-date-3.ensures c.in_ok-date-4.ensures
    c.in_ok-date-5.ensures c.in_ok-date-6.ensures
