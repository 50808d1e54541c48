use Rattle.std.proofs.Common.{◌≤◌, ◌-◌, length}
use Rattle.kmip_ttlv_items.specs.WalkPlaces.{PassesLeaves}
use Rattle.kmip_ttlv_items.proofs.head.behind_leaves.Given as goal

abbrev pub invariant-leaves : goal.invariant-leaves
invariant-leaves l = record { passed : PassesLeaves l.bytes l.end l.fn.offset l.at; before : l.at ≤ l.stop }

abbrev pub decreases-leaves : goal.decreases-leaves
decreases-leaves l = length l.bytes - l.at
