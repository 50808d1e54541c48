-- None so far passes.
use Rattle.std.proofs.Common.{◌≡◌, false, take}
use Rattle.std.specs.List.{list_any}
use Rattle.kmip_operations.specs.Listing.{saying_of}
use Rattle.kmip_operations.specs.Matching.{date_under, is_up_to}
use Rattle.kmip_operations.proofs.matching.begins_by.Given as goal

abbrev pub invariant-loop-one : goal.invariant-loop-one
invariant-loop-one g l = list_any (λ one. is_up_to l.date.0 (date_under l.name (saying_of one))) (take l.one-index l.sought) ≡ false
