-- Of the objects so far those that are sought are found.
use Rattle.std.proofs.Common.{◌≡◌, map, take}
use Rattle.kmip_memory_store.specs.Objects.{objects_of}
use Rattle.kmip_operations.specs.Finding.{found_from}
use Rattle.kmip_operations.specs.Listing.{saying_of}
use Rattle.kmip_operations.proofs.objects.Objects.found.Given as goal

abbrev pub invariant-loop-id : goal.invariant-loop-id
invariant-loop-id g l = l.found.items ≡ found_from (map saying_of l.sought) 0 (take l.id (objects_of l.self.store))
