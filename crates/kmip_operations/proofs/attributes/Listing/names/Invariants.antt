-- The names so far are listed.
use Rattle.std.proofs.Common.{take}
use Rattle.kmip_operations.specs.Listing.{names_from}
use Rattle.kmip_operations.specs.Listings.{Adds}
use Rattle.kmip_operations.proofs.attributes.Listing.names.Given as goal

abbrev pub invariant-loop-index : goal.invariant-loop-index
invariant-loop-index g l = Adds (names_from 0 (take l.index l.names)) l.initial.self l.self
