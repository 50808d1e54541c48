use Rattle.std.proofs.Common.{◌≡◌, length}
use Rattle.std.specs.Prelude.{reverse}
use Rattle.kmip_ttlv_items.specs.WalkPlaces.{unreached}
use Rattle.kmip_ttlv_items.proofs.ends.Ends.leave_outer.Given as goal

abbrev pub invariant-leaving : goal.invariant-leaving
invariant-leaving g l = unreached l.offset (reverse l.initial.self.outer.items) ≡ unreached l.offset (reverse l.self.outer.items)

abbrev pub decreases-leaving : goal.decreases-leaving
decreases-leaving g l = length l.self.outer.items
