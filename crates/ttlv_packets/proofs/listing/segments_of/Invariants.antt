use Rattle.std.proofs.Common.{◌≡◌, ◌++◌, length, drop}
use Rattle.ttlv_packets.specs.Listings.{AreWithin, segments_of}
use Rattle.ttlv_packets.proofs.listing.segments_of.Given as goal

abbrev pub invariant-loop-frame : goal.invariant-loop-frame
invariant-loop-frame g l = record {
  within : AreWithin (length l.bytes) (drop l.frame-index l.frames);
  are : segments_of l.bytes l.port l.frames ≡ l.segments.items ++ segments_of l.bytes l.port (drop l.frame-index l.frames);
}
