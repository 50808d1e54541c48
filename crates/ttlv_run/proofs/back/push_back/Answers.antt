use Rattle.std.proofs.Common.{◌∷◌, ◌+◌, [], length, ap, arith, sym, refl, ◌∙◌}
use Rattle.std.specs.Str.{trim_end}
use Rattle.std.proofs.lemmas.Bool.{eqb-true, eqb-false}
use Rattle.kmip_ttlv_util.specs.{TagNames.name_in, Lines.bounded_part}
use Rattle.kmip_ttlv_util.proofs.Saying.{adds_same, breaks_same, err_now}
use Rattle.ttlv_run.specs.Columns.{mark_length, body}
use Rattle.ttlv_run.proofs.Backs.{empty_back, some_back, empty_whole, line_tries}
use Rattle.ttlv_run.proofs.back.push_back.Goals as goal

pub returns-then-is_empty-clause-text : goal.returns-then-is_empty-clause-text
returns-then-is_empty-clause-text g c =
    let none = empty_back (name_in c.args.names.now) c.args.prefix.now c.args.line.now (c.trim_end-text.ensures.trim ∙ ap trim_end c.unmarked.ensures.is)
    (eqb-true (length c.trim_end-text.result.now) 0 (sym c.is_empty.ensures ∙ c.if-is_empty.true)) in
    adds_same g.S.TextSink.adds g.S.TextSink.breaks _ _ _ _ (g.met.S.TextSink.adds_none c.args.out.now) (sym none)

pub returns-in_err-end-clause-broken : goal.returns-in_err-end-clause-broken
returns-in_err-end-clause-broken g c =
    let some = some_back (name_in c.args.names.now) c.args.prefix.now c.args.line.now (c.trim_end-text.ensures.trim ∙ ap trim_end c.unmarked.ensures.is)
    (eqb-false (length c.trim_end-text.result.now) 0 (sym c.is_empty.ensures ∙ c.if-is_empty.false)) in
    err_now g.S.TextSink.adds g.S.TextSink.breaks _ _ _ _ (breaks_same g.S.TextSink.adds g.S.TextSink.breaks _ _ _ _
    (g.met.S.TextSink.breaks_first _ _ _ (10 ∷ []) c.in_err-end.ensures.broken) (sym some))

pub returns-in_err-push_str-clause-broken : goal.returns-in_err-push_str-clause-broken
returns-in_err-push_str-clause-broken g c =
    let some = some_back (name_in c.args.names.now) c.args.prefix.now c.args.line.now (c.trim_end-text.ensures.trim ∙ ap trim_end c.unmarked.ensures.is)
    (eqb-false (length c.trim_end-text.result.now) 0 (sym c.is_empty.ensures ∙ c.if-is_empty.false)) in
    err_now g.S.TextSink.adds g.S.TextSink.breaks _ _ _ _ (breaks_same g.S.TextSink.adds g.S.TextSink.breaks _ _ _ _
    (g.met.S.TextSink.breaks_second _ _ _ _ (10 ∷ []) c.in_ok-end.ensures.text c.in_err-push_str.ensures.err) (sym some))

pub returns-clause-text : goal.returns-clause-text
returns-clause-text g c =
    let some = some_back (name_in c.args.names.now) c.args.prefix.now c.args.line.now (c.trim_end-text.ensures.trim ∙ ap trim_end c.unmarked.ensures.is)
    (eqb-false (length c.trim_end-text.result.now) 0 (sym c.is_empty.ensures ∙ c.if-is_empty.false)) in
    adds_same g.S.TextSink.adds g.S.TextSink.breaks _ _ _ _ (g.met.S.TextSink.adds_both _ _ _ _ (10 ∷ []) c.in_ok-end.ensures.text c.in_ok-push_str.ensures.ok)
    (sym some)

pub returns-then-is_empty-clause-fault : goal.returns-then-is_empty-clause-fault
returns-then-is_empty-clause-fault g c =
    empty_whole c.args.prefix.now (body c.args.line.now) c.trim_end-text.result.now (c.trim_end-text.ensures.trim ∙ ap trim_end c.unmarked.ensures.is)
    (eqb-true (length c.trim_end-text.result.now) 0 (sym c.is_empty.ensures ∙ c.if-is_empty.true))

pub returns-clause-fault : goal.returns-clause-fault
returns-clause-fault g c =
    line_tries (bounded_part (name_in c.args.names.now)) c.args.prefix.now (c.args.at + mark_length c.args.line.now) (body c.args.line.now)
    c.trim_end-text.result.now _ _ _ _ _ c.stopped_at.result (c.trim_end-text.ensures.trim ∙ ap trim_end c.unmarked.ensures.is) c.in_ok-end.ensures.ends
    c.stopped_at.ensures (omega (arith, c.mark_length-mark.ensures.is, ap mark_length c.as_bytes.ensures.value)) refl
