-- All so far pass.
use Rattle.std.proofs.Common.{◌≡◌, true, map, take}
use Rattle.std.specs.List.{list_all}
use Rattle.kmip_operations.specs.Listing.{saying_of}
use Rattle.kmip_operations.specs.Matching.{is_timely}
use Rattle.kmip_operations.proofs.matching.are_timely.Given as goal

abbrev pub invariant-loop-own : goal.invariant-loop-own
invariant-loop-own g l = list_all (λ own. is_timely (map saying_of l.sought) (saying_of own)) (take l.own-index l.owned) ≡ true
