use Rattle.std.proofs.Common.{◌<◌, ◌≤◌, length, arith}
use Rattle.std.proofs.lemmas.Result.{err_from_is_err_and}
use Rattle.plain_xml.specs.Documents.{progress_view}
use Rattle.plain_xml.proofs.Loops.{elements_stop, elements_go, elements_shorter, elements_end}
use Rattle.plain_xml.proofs.document.elements_of.Goals as goal

pub returns-in_err-next : goal.returns-in_err-next
returns-in_err-next g c =
    let p = err_from_is_err_and c.from_residual.result c.from_residual.ensures.1 in
    let some : 1 ≤ length c.marks.rest.now = omega arith in
    rw (p.1, p.2) (elements_stop c.args.text.now c.marks.rest.now
    (progress_view c.marks.progress) c.in_err-next.field-0.0 some c.marks.invariant c.in_err-next.ensures)

pub marks-smaller : goal.marks-smaller
marks-smaller g c =
    let some : 1 ≤ length c.marks.rest.now = omega arith in
    elements_shorter c.marks.rest.now c.in_ok-next.after.now (progress_view c.marks.progress) (progress_view c.in_ok-next.next) some c.in_ok-next.ensures

pub marks-preserved : goal.marks-preserved
marks-preserved g c =
    let some : 1 ≤ length c.marks.rest.now = omega arith in
    elements_go c.args.text.now c.marks.rest.now c.in_ok-next.after.now (progress_view c.marks.progress)
    (progress_view c.in_ok-next.next) some c.marks.invariant c.in_ok-next.ensures

pub returns : goal.returns
returns g c =
    let none : length c.marks.rest.now < 1 = omega arith in
    rw (elements_end c.args.text.now c.marks.rest.now (progress_view c.marks.progress) none c.marks.invariant) c.finished.ensures
