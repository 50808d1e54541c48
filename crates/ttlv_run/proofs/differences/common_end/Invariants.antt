use Rattle.std.proofs.Common.{◌≡◌, ◌-◌, ◌≤◌, length, drop, map}
use Rattle.ttlv_run.proofs.differences.common_end.Given as goal

abbrev pub invariant-lines : goal.invariant-lines
invariant-lines l =
    (l.count ≤ length l.first) × (l.count ≤ length l.second)
    × (drop (length l.first - l.count) (map (λ s. s.now) l.first) ≡ drop (length l.second - l.count) (map (λ s. s.now) l.second))

abbrev pub decreases-lines : goal.decreases-lines
decreases-lines l = length l.first - l.count
