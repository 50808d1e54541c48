use Rattle.std.proofs.Common.{◌≡◌, ◌+◌, drop}
use Rattle.ttlv_packets.specs.Listings.{blanks}
use Rattle.ttlv_packets.proofs.listing.blanks.Given as goal

abbrev pub invariant-loop-b : goal.invariant-loop-b
invariant-loop-b l = (l.count ≡ l.b-index) × (blanks l.text ≡ l.count + blanks (drop l.b-index l.text))
