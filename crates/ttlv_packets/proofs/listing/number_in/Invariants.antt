use Rattle.std.proofs.Common.{◌≡◌, drop}
use Rattle.ttlv_packets.specs.Listings.{offset_from}
use Rattle.ttlv_packets.proofs.listing.number_in.Given as goal

abbrev pub invariant-loop-b : goal.invariant-loop-b
invariant-loop-b l = offset_from 0 l.text ≡ offset_from l.number (drop l.b-index l.text)
