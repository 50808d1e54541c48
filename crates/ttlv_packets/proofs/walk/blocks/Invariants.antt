use Rattle.std.proofs.Common.{◌≤◌, ◌-◌, length}
use Rattle.ttlv_packets.specs.Files.{Blocks}
use Rattle.ttlv_packets.proofs.walk.blocks.Given as goal

abbrev pub invariant-parts : goal.invariant-parts
invariant-parts g l = record {
  within : l.at ≤ length l.capture;
  reads : Blocks l.capture l.port l.at l.known.big l.known.interfaces.items l.segments.items;
}

abbrev pub decreases-parts : goal.decreases-parts
decreases-parts g l = length l.capture - l.at
