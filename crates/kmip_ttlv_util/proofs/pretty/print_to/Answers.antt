use Rattle.std.proofs.Common.{[], ◌+◌, refl, arith, append-nil}
use Rattle.std.proofs.lemmas.List.{length-reverse}
use Rattle.kmip_ttlv_util.specs.{Diagnostics.exceeded, Pieces.unreadable, TagNames.name_in}
use Rattle.kmip_ttlv_util.proofs.Loop.{smaller, walking_start, walking_front, walking_here, walking_reads, walking_unreadable, walking_closes, walking_over}
use Rattle.kmip_ttlv_util.proofs.Loop.{walking_past}
use Rattle.kmip_ttlv_util.proofs.PrettyTexts.{item_line}
use Rattle.kmip_ttlv_util.proofs.Saying.{ok_text, err_text, err_front, does_then}
use Rattle.kmip_ttlv_util.proofs.pretty.print_to.Goals as goal

pub walk-init : goal.walk-init
walk-init g c = (0, record { text = []; is = λ wording. rw c.new-walk.ensures walking_start; holds = g.met.S.TextSink.adds_none c.args.out.now })

pub walk-preserved-in-Closes : goal.walk-preserved-in-Closes
walk-preserved-in-Closes g c =
    let w = c.walk.invariant.1 in (
      c.walk.invariant.0,
      record { text = w.text; is = λ wording. rw append-nil at (walking_closes (w.is wording) c.in-Closes.ensures.advances); holds = w.holds },
    )

pub returns-in-Over-clause-ok : goal.returns-in-Over-clause-ok
returns-in-Over-clause-ok g c =
    let w = c.walk.invariant.1 in
    record { text = w.text; is = ([], rw append-nil at (walking_over (w.is []) c.in-Over.ensures.advances).text); holds = w.holds }

pub returns-in-Past : goal.returns-in-Past
unfolding exceeded
returns-in-Past g c =
    let w = c.walk.invariant.1 in
    let s = walking_past (w.is []) c.in-Past.ensures.advances in
    let d = does_then g.met.S.TextSink.adds_both g.met.S.TextSink.breaks_second c.push_str.result _ w.holds
    record { ok = c.push_str.ensures.ok; err = c.push_str.ensures.err } in
    record { ok = ok_text c.push_str.result _ _ _ d.ok ([], s.text); err = err_text c.push_str.result _ _ _ d.err ([], s.text) }

pub item_at-requires : goal.item_at-requires
item_at-requires g c = omega (arith, (c.walk.invariant.1.is []).within, c.in-Reads.ensures.pos)

pub returns-in_default : goal.returns-in_default
returns-in_default g c =
    let w = c.walk.invariant.1 in
    let wording = unreadable c.next.new.self.pos in
    let s = walking_unreadable (w.is wording) c.in-Reads.ensures.advances c.in_default.ensures.none in
    let d = does_then g.met.S.TextSink.adds_both g.met.S.TextSink.breaks_second c.push_unreadable.result _ w.holds
    record { ok = c.push_unreadable.ensures.ok; err = c.push_unreadable.ensures.err } in
    record { ok = ok_text c.push_unreadable.result _ _ _ d.ok (wording, s.text); err = err_text c.push_unreadable.result _ _ _ d.err (wording, s.text) }

pub depth-requires : goal.depth-requires
depth-requires g c =
    let w = walking_here (c.walk.invariant.1.is []) c.in-Reads.ensures.advances in
    omega (arith, w.depth, w.eighths, w.within, length-reverse c.next.new.self.ends.items)

pub push_item-requires : goal.push_item-requires
push_item-requires g c = c.in-Some.ensures.some.valid

pub step-requires-clause-few : goal.step-requires-clause-few
step-requires-clause-few g c = let w = walking_here (c.walk.invariant.1.is []) c.in-Reads.ensures.advances in omega (arith, w.depth, w.eighths, w.within)

pub walk-smaller : goal.walk-smaller
walk-smaller g c = smaller c.args.closed c.walk.walk c.next.new.self c.step.new.self c.in-Reads.ensures.advances.0 c.in-Some.ensures.some
    c.in_ok-step-in-Reads.ensures.goes c.in_ok-step-in-Reads.ensures.longer

pub walk-preserved : goal.walk-preserved
walk-preserved g c =
    let w = c.walk.invariant.1 in
    let line = item_line (name_in c.args.names.now) c.args.closed c.next.new.self c.depth.ensures c.in-Some.ensures.some in (
      c.walk.invariant.0 + 1,
      record {
        text = _;
        is = λ wording. walking_reads (w.is wording) c.in-Reads.ensures.advances c.in-Some.ensures.some line c.in_ok-step-in-Reads.ensures.goes;
        holds = g.met.S.TextSink.adds_both _ _ _ _ _ w.holds c.in_ok-push_item-in-Reads.ensures.ok;
      },
    )

pub returns-in_err-push_item-in-Reads-clause-err : goal.returns-in_err-push_item-in-Reads-clause-err
returns-in_err-push_item-in-Reads-clause-err g c =
    let w = c.walk.invariant.1 in
    let line = item_line (name_in c.args.names.now) c.args.closed c.next.new.self c.depth.ensures c.in-Some.ensures.some in
    let k = walking_front (walking_reads (w.is []) c.in-Reads.ensures.advances c.in-Some.ensures.some line refl) in
    err_text _ _ _ _ (err_front g.met.S.TextSink.breaks_first _ (g.met.S.TextSink.breaks_second _ _ _ _ _ w.holds c.in_err-push_item-in-Reads.ensures.err) k)
    ([], refl)

pub returns-in_err-step-in-Reads-clause-err : goal.returns-in_err-step-in-Reads-clause-err
returns-in_err-step-in-Reads-clause-err g c =
    let w = c.walk.invariant.1 in
    let line = item_line (name_in c.args.names.now) c.args.closed c.next.new.self c.depth.ensures c.in-Some.ensures.some in
    let k = walking_front (walking_reads (w.is []) c.in-Reads.ensures.advances c.in-Some.ensures.some line refl) in
    err_text _ _ _ _ (err_front g.met.S.TextSink.breaks_first _ (g.met.S.TextSink.breaks_after _ _ _
    (g.met.S.TextSink.adds_both _ _ _ _ _ w.holds c.in_ok-push_item-in-Reads.ensures.ok)) k) ([], refl)
