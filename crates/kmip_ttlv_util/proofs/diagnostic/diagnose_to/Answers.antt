use Rattle.std.proofs.Common.{[], refl}
use Rattle.kmip_ttlv_util.specs.Diagnostics.{exceeded, hostile}
use Rattle.kmip_ttlv_util.proofs.{Message.item_mark, Saying.err_front, Saying.begins_equal}
use Rattle.kmip_ttlv_util.proofs.Loop.{smaller, walking_start, walking_front, walking_reads, walking_unreadable, walking_closes, walking_over, walking_past}
use Rattle.kmip_ttlv_util.proofs.diagnostic.diagnose_to.Goals as goal

pub walk-init : goal.walk-init
walk-init g c = record { text = []; is = rw c.new-walk.ensures walking_start; holds = g.met.S.TextSink.adds_none c.args.out.now }

pub walk-preserved-in-Continue-1 : goal.walk-preserved-in-Continue-1
walk-preserved-in-Continue-1 g c =
    let w = c.walk.invariant in
    record {
      text = _;
      is = walking_closes w.is c.in-Closes.ensures.advances;
      holds = g.met.S.TextSink.adds_both _ _ _ _ _ w.holds c.in_ok-push_close-in-Closes.ensures.ok;
    }

pub returns-in_err-push_close-in-Closes-clause-err : goal.returns-in_err-push_close-in-Closes-clause-err
unfolding hostile
returns-in_err-push_close-in-Closes-clause-err g c =
    let w = c.walk.invariant in
    err_front g.met.S.TextSink.breaks_first _ (g.met.S.TextSink.breaks_second _ _ _ _ _ w.holds c.in_err-push_close-in-Closes.ensures.err)
    (walking_front (walking_closes w.is c.in-Closes.ensures.advances))

pub returns-in_err-push_close-in-Over-clause-err : goal.returns-in_err-push_close-in-Over-clause-err
unfolding hostile
returns-in_err-push_close-in-Over-clause-err g c =
    let w = c.walk.invariant in
    err_front g.met.S.TextSink.breaks_first _ (g.met.S.TextSink.breaks_second _ _ _ _ _ w.holds c.in_err-push_close-in-Over.ensures.err)
    (begins_equal (walking_over w.is c.in-Over.ensures.advances).text)

pub returns-in_err-push_str-in-Past-clause-err : goal.returns-in_err-push_str-in-Past-clause-err
unfolding hostile exceeded
returns-in_err-push_str-in-Past-clause-err g c =
    let w = c.walk.invariant in
    err_front g.met.S.TextSink.breaks_first _ (g.met.S.TextSink.breaks_second _ _ _ _ _ w.holds c.in_err-push_str-in-Past.ensures.err)
    (begins_equal (walking_past w.is c.in-Past.ensures.advances).text)

pub returns-in_err-push_str-in-Reads-clause-err : goal.returns-in_err-push_str-in-Reads-clause-err
unfolding hostile
returns-in_err-push_str-in-Reads-clause-err g c =
    let w = c.walk.invariant in
    err_front g.met.S.TextSink.breaks_first _ (g.met.S.TextSink.breaks_second _ _ _ _ _ w.holds c.in_err-push_str-in-Reads.ensures.err)
    (begins_equal (walking_unreadable w.is c.in-Reads.ensures.advances c.in_default.ensures.none).text)

pub returns-in_err-push_mark-in-Reads-clause-err : goal.returns-in_err-push_mark-in-Reads-clause-err
unfolding hostile
returns-in_err-push_mark-in-Reads-clause-err g c =
    let w = c.walk.invariant in
    err_front g.met.S.TextSink.breaks_first _ (g.met.S.TextSink.breaks_second _ _ _ _ _ w.holds c.in_err-push_mark-in-Reads.ensures.err)
    (walking_front (walking_reads w.is c.in-Reads.ensures.advances c.in-Some.ensures.some (item_mark c.prefix_of-numbered.ensures.text c.in-Some.ensures.some)
    refl))

pub returns-in_err-step-in-Reads-clause-err : goal.returns-in_err-step-in-Reads-clause-err
unfolding hostile
returns-in_err-step-in-Reads-clause-err g c =
    let w = c.walk.invariant in
    err_front g.met.S.TextSink.breaks_first _ (g.met.S.TextSink.breaks_after _ _ _
    (g.met.S.TextSink.adds_both _ _ _ _ _ w.holds c.in_ok-push_mark-in-Reads.ensures.ok))
    (walking_front (walking_reads w.is c.in-Reads.ensures.advances c.in-Some.ensures.some (item_mark c.prefix_of-numbered.ensures.text c.in-Some.ensures.some)
    refl))

pub returns-in-Over-clause-ok : goal.returns-in-Over-clause-ok
unfolding hostile
returns-in-Over-clause-ok g c =
    let w = c.walk.invariant in
    rw (← (walking_over w.is c.in-Over.ensures.advances).text) (g.met.S.TextSink.adds_both _ _ _ _ _ w.holds c.in_ok-push_close-in-Over.ensures.ok)

pub returns-in-Over-clause-count : goal.returns-in-Over-clause-count
returns-in-Over-clause-count g c = (walking_over c.walk.invariant.is c.in-Over.ensures.advances).counts

pub returns-in-Past-clause-ok : goal.returns-in-Past-clause-ok
unfolding hostile exceeded
returns-in-Past-clause-ok g c =
    let w = c.walk.invariant in
    rw (← (walking_past w.is c.in-Past.ensures.advances).text) (g.met.S.TextSink.adds_both _ _ _ _ _ w.holds c.in_ok-push_str-in-Past.ensures.ok)

pub returns-in-Past-clause-count : goal.returns-in-Past-clause-count
unfolding exceeded
returns-in-Past-clause-count g c = (walking_past c.walk.invariant.is c.in-Past.ensures.advances).counts

pub returns-in_default-clause-ok : goal.returns-in_default-clause-ok
unfolding hostile
returns-in_default-clause-ok g c =
    let w = c.walk.invariant in
    rw (← (walking_unreadable w.is c.in-Reads.ensures.advances c.in_default.ensures.none).text)
    (g.met.S.TextSink.adds_both _ _ _ _ _ w.holds c.in_ok-push_str-in-Reads.ensures.ok)

pub returns-in_default-clause-count : goal.returns-in_default-clause-count
returns-in_default-clause-count g c = (walking_unreadable c.walk.invariant.is c.in-Reads.ensures.advances c.in_default.ensures.none).counts

pub walk-smaller : goal.walk-smaller
walk-smaller g c = smaller c.args.closed c.walk.walk c.next.new.self c.step.new.self c.in-Reads.ensures.advances.0 c.in-Some.ensures.some
    c.in_ok-step-in-Reads.ensures.goes c.in_ok-step-in-Reads.ensures.longer

pub walk-preserved : goal.walk-preserved
walk-preserved g c =
    let w = c.walk.invariant in
    record {
      text = _;
      is = walking_reads w.is c.in-Reads.ensures.advances c.in-Some.ensures.some (item_mark c.prefix_of-numbered.ensures.text c.in-Some.ensures.some)
          c.in_ok-step-in-Reads.ensures.goes;
      holds = g.met.S.TextSink.adds_both _ _ _ _ _ w.holds c.in_ok-push_mark-in-Reads.ensures.ok;
    }
