-- None so far passes.
use Rattle.std.proofs.Common.{◌≡◌, false, take}
use Rattle.std.specs.List.{list_any}
use Rattle.kmip_operations.specs.Listing.{saying_of}
use Rattle.kmip_operations.specs.Matching.{fits}
use Rattle.kmip_operations.proofs.matching.has.Given as goal

abbrev pub invariant-loop-own : goal.invariant-loop-own
invariant-loop-own g l = list_any (λ own. fits (saying_of l.one) (saying_of own)) (take l.own-index l.owned) ≡ false
