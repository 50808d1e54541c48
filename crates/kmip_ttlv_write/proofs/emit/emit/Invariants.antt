use Rattle.std.proofs.Common.{◌≡◌, length, map}
use Rattle.kmip_ttlv_write.proofs.Emitting.{Standing}
use Rattle.kmip_ttlv_write.proofs.emit.emit.Given as goal

abbrev pub invariant-items : goal.invariant-items
invariant-items g l = record { len : length l.out ≡ length l.fn.out; stands : Standing l.lent (map g.T.GiveItem.given l.items) l.item-index l.out l.place }
