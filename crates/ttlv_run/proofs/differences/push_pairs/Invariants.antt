use Rattle.std.proofs.Common.{◌≤◌, take, map, string_bytes}
use Rattle.ttlv_run.specs.Differences.{AddsAll}
use Rattle.ttlv_run.proofs.differences.push_pairs.Given as goal

abbrev pub invariant-pairs : goal.invariant-pairs
invariant-pairs g l =
    (l.start ≤ l.at)
    × AddsAll (take l.start (map (λ s. s.now) l.first)) (take l.start (map (λ s. s.now) l.second)) (string_bytes l.initial.out) (string_bytes l.out)
