use Rattle.std.proofs.Common.{◌+◌, map, drop, arith}
use Rattle.kmip_ttlv_xml.specs.GivenElements.{moved_view, item_view}
use Rattle.kmip_ttlv_xml.proofs.Sounding.{item_sound}
use Rattle.kmip_ttlv_xml.proofs.Giving.{given_more, first_wrong, at_element, more_elements}
use Rattle.kmip_ttlv_xml.proofs.given.given_of.Goals as goal

pub returns-in-Err-Bad-clause-err : goal.returns-in-Err-Bad-clause-err
returns-in-Err-Bad-clause-err g c =
    let view = moved_view {A = g.row.A.Denot} c.args.around in
    let es = map view c.args.elements.now in
    let k = c.loop-element.element-index in
    let there = at_element view c.args.elements.now k c.loop-element-test.true c.element-item.is in
    let wrong = rw c.in-Err-Bad.field-0-is at c.in-Err-Bad.ensures in
    rw c.in-Err-Bad.field-0-is (first_wrong es k c.loop-element.index _ _ (view c.element-item.result) (drop (k + 1) es) c.in-Err-Bad.bad
    c.loop-element.invariant.index c.loop-element.invariant.given there wrong)

pub push_item-requires-clause-sound : goal.push_item-requires-clause-sound
push_item-requires-clause-sound g c = item_sound _ _ _ c.in-Ok.ensures

pub loop-element-preserved : goal.loop-element-preserved
loop-element-preserved g c =
    let view = moved_view {A = g.row.A.Denot} c.args.around in
    let es = map view c.args.elements.now in
    let k = c.loop-element.element-index in
    let more = more_elements view c.args.elements.now k c.loop-element-test.true c.element-item.is in
    let adds = rw c.saturating_sub.ensures at c.in_ok-push_item.ensures in
    record {
      index = omega (arith, c.loop-element.invariant.index);
      given = rw more (given_more c.loop-element.invariant.given (view c.element-item.result) (item_view c.in-Ok.item) c.in-Ok.ensures adds);
    }
