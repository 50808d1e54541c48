use Rattle.std.proofs.Common.{◌≡◌, ◌≤◌, ◌-◌, true, length, take}
use Rattle.std.specs.List.{list_all}
use Rattle.ttlv_run.specs.Escapes.{is_bare_ascii}
use Rattle.ttlv_run.proofs.escape.shown_front.Given as goal

abbrev pub invariant-bytes : goal.invariant-bytes
invariant-bytes l = (l.count ≤ length l.bytes) × (list_all is_bare_ascii (take l.count l.bytes) ≡ true)

abbrev pub decreases-bytes : goal.decreases-bytes
decreases-bytes l = length l.bytes - l.count
