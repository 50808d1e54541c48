use Rattle.std.proofs.Common.{◌≡◌, ◌+◌, drop}
use Rattle.ttlv_packets.specs.Listings.{until_spaces}
use Rattle.ttlv_packets.proofs.listing.until_spaces.Given as goal

abbrev pub invariant-loop-b : goal.invariant-loop-b
invariant-loop-b l = (l.count ≡ l.b-index) × (until_spaces l.text ≡ l.count + until_spaces (drop l.b-index l.text))
