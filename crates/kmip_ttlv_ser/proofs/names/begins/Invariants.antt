use Rattle.std.proofs.Common.{◌≡◌, ◌≤◌, ◌-◌, length, take}
use Rattle.kmip_ttlv_ser.proofs.names.begins.Given as goal

abbrev pub invariant-loop-at : goal.invariant-loop-at
invariant-loop-at l =
    (l.at ≤ length l.prefix) × (length l.prefix ≤ length l.bytes) × (take l.at l.bytes ≡ take l.at l.prefix)

abbrev pub decreases-loop-at : goal.decreases-loop-at
decreases-loop-at l = length l.prefix - l.at
