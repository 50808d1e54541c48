use Rattle.std.proofs.Common.{◌≤◌, ◌-◌, length}
use Rattle.ttlv_packets.specs.Listings.{Lists, listed_of}
use Rattle.ttlv_packets.proofs.listing.read_lines.Given as goal

abbrev pub invariant-lines : goal.invariant-lines
invariant-lines g l = record {
  within : l.listing.end ≤ length l.text;
  lists : Lists l.text l.listing.end (listed_of l.listing);
}

abbrev pub decreases-lines : goal.decreases-lines
decreases-lines g l = length l.text - l.listing.end
