use Rattle.std.proofs.Common.{rules, ◌++◌, ◌∷◌, []}
use Rattle.kmip_ttlv_types.specs.declared.typ.TtlvType.TheVariants.{Structure}
use Rattle.kmip_ttlv_util.specs.{Lines.data_part, Pretty.value_shown, TagNames.name_in}
use Rattle.kmip_ttlv_util.proofs.LineParts.{line_structure, line_leaf, line_front}
use Rattle.kmip_ttlv_util.proofs.Saying.{does_then, err_front, begins_equal}
use Rattle.kmip_ttlv_util.proofs.pretty.push_line.Goals as goal

pub returns-in_err-push_tag_part-clause-err : goal.returns-in_err-push_tag_part-clause-err
returns-in_err-push_tag_part-clause-err g c = err_front g.met.S.TextSink.breaks_first _ c.in_err-push_tag_part.ensures.err (line_front _ _ _ _ _)

pub returns-then-eq : goal.returns-then-eq
returns-then-eq g c =
    let i = c.args.item.now in
    let whole = line_structure (name_in c.args.names.now) c.args.depth i.tag i.typ i.content.now (search rules) in
    let d = does_then g.met.S.TextSink.adds_both g.met.S.TextSink.breaks_second c.push_str.result
    (data_part Structure ++ (10 ∷ [])) c.in_ok-push_tag_part.ensures.ok
    record { ok = c.push_str.ensures.ok; err = c.push_str.ensures.err } in
    record { ok = rw (← whole) d.ok; err = rw (← whole) d.err }

pub returns-in_err-push_data_part-clause-err : goal.returns-in_err-push_data_part-clause-err
returns-in_err-push_data_part-clause-err g c =
    let i = c.args.item.now in
    err_front g.met.S.TextSink.breaks_first _ (g.met.S.TextSink.breaks_second _ _ _ _ _ (c.in_ok-push_tag_part.ensures.ok)
    (g.met.S.TextSink.breaks_first _ _ (data_part i.typ) (value_shown i.typ i.content.now ++ (10 ∷ [])) (c.in_err-push_data_part.ensures.err)))
    (begins_equal (line_leaf (name_in c.args.names.now) c.args.depth i.tag i.typ i.content.now (search rules)))

pub returns-in_err-push_value-clause-err : goal.returns-in_err-push_value-clause-err
returns-in_err-push_value-clause-err g c =
    let i = c.args.item.now in
    let whole = line_leaf (name_in c.args.names.now) c.args.depth i.tag i.typ i.content.now (search rules) in
    err_front g.met.S.TextSink.breaks_first _ (g.met.S.TextSink.breaks_second _ _ _ _ _ (c.in_ok-push_tag_part.ensures.ok)
    (g.met.S.TextSink.breaks_second _ _ _ (data_part i.typ) _ (c.in_ok-push_data_part.ensures.ok)
    (g.met.S.TextSink.breaks_first _ _ _ (10 ∷ []) (c.in_err-push_value.ensures.err)))) (begins_equal whole)

pub returns : goal.returns
returns g c =
    let i = c.args.item.now in
    let whole = line_leaf (name_in c.args.names.now) c.args.depth i.tag i.typ i.content.now (search rules) in
    let d = does_then g.met.S.TextSink.adds_both g.met.S.TextSink.breaks_second c.push_str-2.result _ c.in_ok-push_tag_part.ensures.ok
    (does_then g.met.S.TextSink.adds_both g.met.S.TextSink.breaks_second _ _ c.in_ok-push_data_part.ensures.ok
    (does_then g.met.S.TextSink.adds_both g.met.S.TextSink.breaks_second _ (10 ∷ []) c.in_ok-push_value.ensures.ok
    record { ok = c.push_str-2.ensures.ok; err = c.push_str-2.ensures.err })) in
    record { ok = rw (← whole) d.ok; err = rw (← whole) d.err }
