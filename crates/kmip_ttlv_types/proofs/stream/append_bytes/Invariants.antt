use Rattle.std.proofs.Common.{◌≤◌, ◌-◌}
use Rattle.kmip_ttlv_types.specs.Streams.{Behind}
use Rattle.kmip_ttlv_types.proofs.stream.append_bytes.Given as goal

abbrev pub invariant-loop-due : goal.invariant-loop-due
invariant-loop-due g l = (l.due ≤ l.count)
    × Behind (g.S.Source.left l.initial.source) (g.S.Source.left l.source) l.initial.bytes.items l.bytes.items (l.count - l.due)

abbrev pub decreases-loop-due : goal.decreases-loop-due
decreases-loop-due g l = l.due
