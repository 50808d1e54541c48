use Rattle.std.proofs.Common.{◌≡◌, ◌++◌, ◌<◌, IfSome, None, drop}
use Rattle.ttlv_packets.specs.Listings.{pairs}
use Rattle.ttlv_packets.proofs.listing.push_pairs.Given as goal

abbrev pub invariant-loop-b : goal.invariant-loop-b
invariant-loop-b g l = record {
  small : IfSome l.first (λ high. high < 16);
  bytes : l.fn.bytes.items ++ pairs None l.text ≡ l.bytes.items ++ pairs l.first (drop l.b-index l.text);
}
