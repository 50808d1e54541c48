use Rattle.std.proofs.Common.{◌≡◌, ◌++◌, take, map, string_bytes}
use Rattle.std.specs.List.{flat_map}
use Rattle.ttlv_run.specs.Differences.{behind}
use Rattle.ttlv_run.proofs.differences.push_behind.Given as goal

abbrev pub invariant-lines : goal.invariant-lines
invariant-lines g l =
    string_bytes l.out ≡ string_bytes l.initial.out ++ flat_map (behind l.mark) (take l.line-index (map (λ s. s.now) l.lines))
