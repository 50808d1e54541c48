-- The names so far are those of the attributes so far.
use Rattle.std.proofs.Common.{◌≡◌, map, string_bytes, take}
use Rattle.kmip_operations.specs.Listing.{saying_of}
use Rattle.kmip_operations.specs.Showing.{names_of}
use Rattle.kmip_operations.proofs.showing.first_names.Given as goal

abbrev pub invariant-loop-attribute : goal.invariant-loop-attribute
invariant-loop-attribute g l = map string_bytes l.names.items ≡ names_of (map saying_of (take l.attribute-index l.attributes))
