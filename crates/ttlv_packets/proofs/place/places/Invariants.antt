use Rattle.std.proofs.Common.{◌≡◌, ◌++◌, None, drop}
use Rattle.ttlv_packets.specs.Streams.{places}
use Rattle.ttlv_packets.proofs.place.places.Given as goal

abbrev pub invariant-loop-segment : goal.invariant-loop-segment
invariant-loop-segment g l = places None l.segments ≡ l.all.items ++ places l.cursor (drop l.segment-index l.segments)
