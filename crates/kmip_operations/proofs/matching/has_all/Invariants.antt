-- All so far pass.
use Rattle.std.proofs.Common.{◌≡◌, true, take}
use Rattle.std.specs.List.{list_all, list_any}
use Rattle.kmip_operations.specs.Listing.{saying_of}
use Rattle.kmip_operations.specs.Matching.{fits}
use Rattle.kmip_operations.proofs.matching.has_all.Given as goal

abbrev pub invariant-loop-one : goal.invariant-loop-one
invariant-loop-one g l = list_all (λ one. list_any (λ own. fits (saying_of one) (saying_of own)) l.owned) (take l.one-index l.sought) ≡ true
