use Rattle.std.proofs.Common.{◌≤◌, ◌-◌, length}
use Rattle.ttlv_packets.specs.Files.{Classic, classic_interface}
use Rattle.ttlv_packets.proofs.walk.classic.Given as goal

abbrev pub invariant-records : goal.invariant-records
invariant-records g l = record {
  within : l.at ≤ length l.capture;
  reads : Classic l.capture l.port l.big (classic_interface l.big l.capture) l.at l.segments.items;
}

abbrev pub decreases-records : goal.decreases-records
decreases-records g l = length l.capture - l.at
