use Rattle.std.proofs.Common.{◌≡◌, ◌+◌, drop}
use Rattle.ttlv_packets.specs.Streams.{first_run}
use Rattle.ttlv_packets.proofs.stream.first_run.Given as goal

abbrev pub invariant-loop-placed : goal.invariant-loop-placed
invariant-loop-placed l = (l.count ≡ l.placed-index) × (first_run l.stream l.places ≡ l.count + first_run l.stream (drop l.placed-index l.places))
