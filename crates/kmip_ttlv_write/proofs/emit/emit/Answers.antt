use Rattle.std.proofs.Common.{arith, ◌≤◌, length, map, refl, ◌∙◌}
use Rattle.std.proofs.lemmas.List.{length-map}
use Rattle.kmip_ttlv_write.proofs.Emitting.{standing_first, standing_more, standing_all, can_put, small_put, at_item, more_item}
use Rattle.kmip_ttlv_write.proofs.emit.emit.Goals as goal

pub items-init : goal.items-init
items-init g c = record {
  len = refl;
  stands = standing_first c.args.lent.now (map g.T.GiveItem.given c.args.items.now) c.args.out.now c.requires.fit
      c.requires.room;
}

pub put_item-place-requires : goal.put_item-place-requires
put_item-place-requires g c = can_put c.items.invariant.stands
    (at_item g.T.GiveItem.given c.args.items.now c.items.item-index c.items-test.true c.item-item.is c.give.ensures)

pub items-preserved : goal.items-preserved
items-preserved g c =
    let s = c.items.invariant.stands in
    let at = at_item g.T.GiveItem.given c.args.items.now c.items.item-index c.items-test.true c.item-item.is c.give.ensures in
    let more = more_item g.T.GiveItem.given c.args.items.now c.items.item-index c.items-test.true c.item-item.is c.give.ensures in
    record {
      len = c.put_item-place.ensures.len ∙ c.items.invariant.len;
      stands = standing_more s at c.put_item-place.ensures.len more (c.put_item-place.ensures.holds s.opened s.holds (small_put s at));
    }

pub returns : goal.returns
returns g c =
    let xs = map g.T.GiveItem.given c.args.items.now in
    let s = c.items.invariant.stands in
    let le : length xs ≤ c.items.item-index = omega (arith, length-map c.args.items.now g.T.GiveItem.given, c.items-test.false) in
    standing_all xs c.items.item-index le c.leave.ensures.len s (c.leave.ensures.holds s.opened s.holds)
