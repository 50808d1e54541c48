use Rattle.std.proofs.Common.{◌≡◌, ◌-◌, ◌≤◌, length, take, map}
use Rattle.ttlv_run.proofs.differences.common_front.Given as goal

abbrev pub invariant-lines : goal.invariant-lines
invariant-lines l =
    (l.count ≤ length l.first) × (l.count ≤ length l.second) × (take l.count (map (λ s. s.now) l.first) ≡ take l.count (map (λ s. s.now) l.second))

abbrev pub decreases-lines : goal.decreases-lines
decreases-lines l = length l.first - l.count
