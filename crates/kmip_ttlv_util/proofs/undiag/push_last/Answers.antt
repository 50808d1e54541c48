use Rattle.std.specs.{Prelude.codes, Str.trim_end}
use Rattle.std.proofs.Common.{length, sym, ◌∙◌}
use Rattle.std.proofs.lemmas.Bool.{eqb-true, eqb-false}
use Rattle.kmip_ttlv_util.proofs.Firm.{is_bare, is_last}
use Rattle.kmip_ttlv_util.proofs.Saying.{does_then, err_front, begins_equal}
use Rattle.kmip_ttlv_util.proofs.undiag.push_last.Goals as goal

pub returns-then-is_empty : goal.returns-then-is_empty
returns-then-is_empty g c =
    let is = is_bare c.args.pending c.trim_end-shown.result.now (trim_end c.args.shown.now) c.if-not-pending.false c.trim_end-shown.ensures.trim
    (eqb-true (length c.trim_end-shown.result.now) 0 (sym c.is_empty.ensures ∙ c.if-is_empty.true)) in
    record { ok = rw (← is) c.push_str.ensures.ok; err = rw (← is) c.push_str.ensures.err }

pub returns-in_err-push_str-clause-err : goal.returns-in_err-push_str-clause-err
returns-in_err-push_str-clause-err g c =
    let is = is_last c.args.pending c.trim_end-shown.result.now (trim_end c.args.shown.now) c.if-not-pending.false c.trim_end-shown.ensures.trim
    (eqb-false (length c.trim_end-shown.result.now) 0 (sym c.is_empty.ensures ∙ c.if-is_empty.false)) in
    err_front g.met.S.TextSink.breaks_first _ (g.met.S.TextSink.breaks_first _ _ (codes ", Data: ") _ c.in_err-push_str.ensures.err) (begins_equal is)

pub returns : goal.returns
returns g c =
    let is = is_last c.args.pending c.trim_end-shown.result.now (trim_end c.args.shown.now) c.if-not-pending.false c.trim_end-shown.ensures.trim
    (eqb-false (length c.trim_end-shown.result.now) 0 (sym c.is_empty.ensures ∙ c.if-is_empty.false)) in
    let d = does_then g.met.S.TextSink.adds_both g.met.S.TextSink.breaks_second c.push_str-3.result _ c.in_ok-push_str.ensures.ok
    record { ok = c.push_str-3.ensures.ok; err = c.push_str-3.ensures.err } in
    record { ok = rw (← is) d.ok; err = rw (← is) d.err }
