use Rattle.std.proofs.Common.{◌≡◌, List}
use Rattle.kmip_ttlv_items.specs.{declared.found.FoundItem.FoundItem, Stepping.Met, Stepping.left}
use Rattle.kmip_ttlv_items.proofs.walk.find_fault.Given as goal

abbrev pub invariant-walk : goal.invariant-walk
invariant-walk g l = record { bytes : l.walk.bytes.now ≡ l.bytes; met : (found : List FoundItem) × Met l.walk found }

abbrev pub decreases-walk : goal.decreases-walk
decreases-walk g l = left l.walk
