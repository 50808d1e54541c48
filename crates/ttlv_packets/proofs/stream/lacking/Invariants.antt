use Rattle.std.proofs.Common.{◌≡◌, drop}
use Rattle.ttlv_packets.specs.Streams.{lacking}
use Rattle.ttlv_packets.proofs.stream.lacking.Given as goal

abbrev pub invariant-loop-placed : goal.invariant-loop-placed
invariant-loop-placed l = lacking l.end l.run ≡ lacking l.end (drop l.placed-index l.run)
