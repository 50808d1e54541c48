use Rattle.std.proofs.Common.{◌<◌, ◌≤◌, length, arith}
use Rattle.std.proofs.lemmas.Result.{err_from_is_err_and}
use Rattle.plain_xml.proofs.PlaceSteps.{place_goes, place_shorter, place_found, place_stops, place_ends}
use Rattle.plain_xml.proofs.place.from_element.Goals as goal

pub returns-in_err-fewer : goal.returns-in_err-fewer
returns-in_err-fewer g c =
    let p = err_from_is_err_and c.from_residual.result c.from_residual.ensures.1 in
    let some : 1 ≤ length c.marks.rest.now = omega arith in
    rw (p.1, p.2) (place_stops c.args.index c.marks.left c.args.text.now c.marks.rest.now c.in_err-fewer.field-0.0 some
    c.marks.invariant c.in_err-fewer.ensures)

pub returns-in_default-2 : goal.returns-in_default-2
returns-in_default-2 g c =
    let some : 1 ≤ length c.marks.rest.now = omega arith in
    let e = rw c.in_default-2.is at c.in_ok-fewer.ensures in
    place_found c.args.index c.marks.left c.args.text.now c.marks.rest.now some c.marks.invariant e

pub marks-smaller : goal.marks-smaller
marks-smaller g c =
    let some : 1 ≤ length c.marks.rest.now = omega arith in
    let e = rw c.in-Some.is at c.in_ok-fewer.ensures in
    place_shorter c.marks.left c.in-Some.fewer c.marks.rest.now c.in-Some.after.now some e

pub marks-preserved : goal.marks-preserved
marks-preserved g c =
    let some : 1 ≤ length c.marks.rest.now = omega arith in
    let e = rw c.in-Some.is at c.in_ok-fewer.ensures in
    place_goes c.args.index c.marks.left c.in-Some.fewer c.args.text.now c.marks.rest.now c.in-Some.after.now some c.marks.invariant e

pub returns : goal.returns
returns g c =
    let none : length c.marks.rest.now < 1 = omega arith in
    place_ends c.args.index c.marks.left c.args.text.now c.marks.rest.now none c.marks.invariant
