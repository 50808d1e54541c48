use Rattle.std.proofs.Common.{◌≡◌, ◌+◌, drop}
use Rattle.ttlv_packets.specs.Listings.{until}
use Rattle.ttlv_packets.proofs.listing.until.Given as goal

abbrev pub invariant-loop-b : goal.invariant-loop-b
invariant-loop-b l = (l.count ≡ l.b-index) × (until l.stop l.text ≡ l.count + until l.stop (drop l.b-index l.text))
