-- None so far passes.
use Rattle.std.proofs.Common.{◌≡◌, false, take}
use Rattle.std.specs.List.{list_any}
use Rattle.kmip_operations.specs.Listing.{saying_of}
use Rattle.kmip_operations.specs.Matching.{date_under, is_from}
use Rattle.kmip_operations.proofs.matching.ends_by.Given as goal

abbrev pub invariant-loop-one : goal.invariant-loop-one
invariant-loop-one g l = list_any (λ one. is_from l.date.0 (date_under l.name (saying_of one))) (take l.one-index l.sought) ≡ false
