use Rattle.std.proofs.Common.{arith, map}
use Rattle.kmip_ttlv_write.proofs.Emitting.{at_item, more_item}
use Rattle.kmip_ttlv_write.proofs.Measuring.{has_none, fits_more, after_more, few_then}
use Rattle.kmip_ttlv_write.proofs.measure.measure.Goals as goal

pub returns-in-Err-clause-err : goal.returns-in-Err-clause-err
returns-in-Err-clause-err g c =
    let v = c.items.invariant in
    has_none (map g.T.GiveItem.given c.args.items.now) c.items.item-index c.in-Err.kind c.give.result v.index v.fit v.reach
    (at_item g.T.GiveItem.given c.args.items.now c.items.item-index c.items-test.true c.item-item.is c.give.ensures) c.in-Err.ensures.err

pub items-preserved : goal.items-preserved
items-preserved g c =
    let v = c.items.invariant in
    let k = c.in-Ok.ensures.ok in
    let more = more_item g.T.GiveItem.given c.args.items.now c.items.item-index c.items-test.true c.item-item.is c.give.ensures in
    let xs = map g.T.GiveItem.given c.args.items.now in
    record {
      fit = fits_more k.0 k.1 xs c.items.item-index v.reach v.fit more;
      reach = after_more k.0 k.1 xs c.items.item-index v.reach more;
      few = few_then k.0 k.1 v.few;
      index = omega (arith, v.index);
    }
