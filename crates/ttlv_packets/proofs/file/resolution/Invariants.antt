use Rattle.std.proofs.Common.{◌≡◌}
use Rattle.ttlv_packets.specs.Files.{resolution}
use Rattle.ttlv_packets.proofs.file.resolution.Given as goal

abbrev pub invariant-options : goal.invariant-options
invariant-options l = resolution l.big 32 l.options ≡ resolution l.big l.left l.rest

abbrev pub decreases-options : goal.decreases-options
decreases-options l = l.left
