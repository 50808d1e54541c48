use Rattle.std.proofs.Common.{arith}
use Rattle.kmip_ttlv_util.specs.TagNames.{named}
use Rattle.kmip_ttlv_util.proofs.LineParts.{bounded_low, bounded_deep}
use Rattle.kmip_ttlv_util.proofs.Saying.{does_then, err_front, begins_equal}
use Rattle.kmip_ttlv_util.proofs.indentation.push_bounded.Goals as goal

pub returns-then-depth-le64 : goal.returns-then-depth-le64
returns-then-depth-le64 g c =
    let text = bounded_low (named c.args.name) c.args.depth c.args.tag (omega (arith, c.if-depth-le64.true)) in
    record { ok = rw (← text) c.push_named_part.ensures.ok; err = rw (← text) c.push_named_part.ensures.err }

pub returns-in_err-push_depth-clause-err : goal.returns-in_err-push_depth-clause-err
returns-in_err-push_depth-clause-err g c =
    let text = bounded_deep (named c.args.name) c.args.depth c.args.tag (omega (arith, c.if-depth-le64.false)) in
    err_front g.met.S.TextSink.breaks_first _ (g.met.S.TextSink.breaks_first _ _ _ _ c.in_err-push_depth.ensures.err) (begins_equal text)

pub returns : goal.returns
returns g c =
    let text = bounded_deep (named c.args.name) c.args.depth c.args.tag (omega (arith, c.if-depth-le64.false)) in
    let d = does_then g.met.S.TextSink.adds_both g.met.S.TextSink.breaks_second c.push_named_part-2.result _ c.in_ok-push_depth.ensures.ok
    record { ok = c.push_named_part-2.ensures.ok; err = c.push_named_part-2.ensures.err } in
    record { ok = rw (← text) d.ok; err = rw (← text) d.err }
