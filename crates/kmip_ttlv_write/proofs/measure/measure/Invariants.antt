use Rattle.std.proofs.Common.{◌≡◌, ◌≤◌, map, take}
use Rattle.kmip_ttlv_write.specs.FlatWrites.{AllFit, start, after_all}
use Rattle.kmip_ttlv_write.proofs.measure.measure.Given as goal

abbrev pub invariant-items : goal.invariant-items
invariant-items g l = record {
  fit : AllFit l.lent start (take l.item-index (map g.T.GiveItem.given l.items));
  reach : l.reach ≡ after_all start (take l.item-index (map g.T.GiveItem.given l.items));
  few : l.reach.depth ≤ l.reach.size;
  index : l.index ≡ l.item-index;
}
