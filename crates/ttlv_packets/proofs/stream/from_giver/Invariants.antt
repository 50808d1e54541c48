use Rattle.std.proofs.Common.{◌≡◌, ◌<◌, ◌≤◌, ℕ, length}
use Rattle.ttlv_packets.specs.Streams.{giver}
use Rattle.ttlv_packets.proofs.stream.from_giver.Given as goal

abbrev pub invariant-segments : goal.invariant-segments
invariant-segments l = record {
  some : 0 < length l.rest;
  later : (q : ℕ) → l.place ≤ q → giver q l.run ≡ giver q l.rest;
}

abbrev pub decreases-segments : goal.decreases-segments
decreases-segments l = length l.rest
