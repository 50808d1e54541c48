use Rattle.std.proofs.Common.{◌≡◌, length}
use Rattle.kmip_ttlv_write.specs.OpenStructures.{Opened, Holds, IsOpen}
use Rattle.kmip_ttlv_write.proofs.Holding.{Left}
use Rattle.kmip_ttlv_write.proofs.emit.leave.Given as goal

abbrev pub invariant-leaving : goal.invariant-leaving
invariant-leaving l = record {
  len : length l.out ≡ length l.fn.out;
  some : IsOpen l.out l.place;
  holds : (o : Opened) → Holds o l.fn.out l.fn.from → Left l.depth o l.out l.place;
}

abbrev pub decreases-leaving : goal.decreases-leaving
decreases-leaving l = l.place.depth
