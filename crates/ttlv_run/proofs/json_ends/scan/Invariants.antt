use Rattle.std.proofs.Common.{◌≡◌, ◌≤◌, ◌+◌, Some, take}
use Rattle.ttlv_run.specs.JsonEnds.{depth_of, goes_on}
use Rattle.ttlv_run.proofs.json_ends.scan.Given as goal

abbrev pub invariant-loop-at : goal.invariant-loop-at
invariant-loop-at l = (goes_on l.fn.part (take l.at l.bytes) ≡ Some l.part) × (depth_of l.part ≤ depth_of l.fn.part + l.at)
