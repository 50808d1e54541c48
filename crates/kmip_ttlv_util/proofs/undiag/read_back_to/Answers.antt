use Rattle.std.proofs.Common.{rules, ◌∙◌, [], sym, ap, arith}
use Rattle.std.specs.Str.{IsUtf8}
use Rattle.kmip_ttlv_util.specs.{TagNames.name_in, Undiag.front_type}
use Rattle.kmip_ttlv_util.proofs.{Firm.begun, Firm.typed_solid, Saying.err_front, Saying.begins_equal}
use Rattle.kmip_ttlv_util.proofs.Going.{going_start, goes_close, goes_item, no_tag, no_type, no_data, last_trimmed, begun_trimmed, stops_utf8, stops_ends}
use Rattle.kmip_ttlv_util.proofs.Going.{leads_same, leads_tag, leads_type}
use Rattle.std.proofs.lemmas.Str.{IsUtf8-nil}
use Rattle.kmip_ttlv_util.proofs.undiag.read_back_to.Goals as goal

pub parts-init : goal.parts-init
parts-init g c = (c.utf8.s, search rules, record { text = []; is = going_start IsUtf8-nil; holds = g.met.S.TextSink.adds_none c.args.out.now })

pub parts-preserved-in-Some : goal.parts-preserved-in-Some
parts-preserved-in-Some g c =
    let i = c.parts.invariant.2 in
    let shut = c.in-Some.ensures.some in
    let utf8 : IsUtf8 c.in-Some.left.now = search rules in
    (utf8, c.parts.invariant.1, record { text = i.text; is = goes_close i.is shut.0 shut.1; holds = i.holds })

pub returns-in_err-tag-clause-broken : goal.returns-in_err-tag-clause-broken
returns-in_err-tag-clause-broken g c =
    let i = c.parts.invariant.2 in
    err_front g.met.S.TextSink.breaks_first _ (g.met.S.TextSink.breaks_after _ _ _ i.holds) (leads_same i.is)

pub returns-in_err-push_last-clause-broken : goal.returns-in_err-push_last-clause-broken
returns-in_err-push_last-clause-broken g c =
    let i = c.parts.invariant.2 in
    err_front g.met.S.TextSink.breaks_first _ (g.met.S.TextSink.breaks_second _ _ _ _ _ i.holds c.in_err-push_last.ensures.err)
    (begins_equal (last_trimmed i.is (no_tag i.is (search rules) c.in_default.ensures.none)))

pub returns-in_default-2-clause-text : goal.returns-in_default-2-clause-text
returns-in_default-2-clause-text g c =
    let i = c.parts.invariant.2 in
    rw (← last_trimmed i.is (no_tag i.is (search rules) c.in_default.ensures.none)) (g.met.S.TextSink.adds_both _ _ _ _ _ i.holds c.in_ok-push_last.ensures.ok)

pub returns-in_default-2-clause-utf8 : goal.returns-in_default-2-clause-utf8
returns-in_default-2-clause-utf8 g c =
    let i = c.parts.invariant.2 in
    stops_utf8 i.is (no_tag i.is (search rules) c.in_default.ensures.none)

pub returns-in_default-2-clause-ends : goal.returns-in_default-2-clause-ends
returns-in_default-2-clause-ends g c =
    let i = c.parts.invariant.2 in
    stops_ends i.is (no_tag i.is (search rules) c.in_default.ensures.none) c.end_at.ensures.used c.end_at.ensures.depth

pub returns-in_err-push_pending-clause-broken : goal.returns-in_err-push_pending-clause-broken
returns-in_err-push_pending-clause-broken g c =
    let i = c.parts.invariant.2 in
    let k = begun c.args.indentation (name_in c.args.names.now) c.name_of-name.result c.parts.depth c.in-Some-2.tag (omega (arith, c.parts.auto.depth-fits))
    c.name_of-name.ensures.name c.name_of-name.ensures.text in
    err_front g.met.S.TextSink.breaks_first _ (g.met.S.TextSink.breaks_first _ _ _ _
    (g.met.S.TextSink.breaks_second _ _ _ _ _ i.holds c.in_err-push_pending.ensures.err)) (leads_tag i.is k (search rules))

pub returns-in_err-push_named_beginning-clause-broken : goal.returns-in_err-push_named_beginning-clause-broken
returns-in_err-push_named_beginning-clause-broken g c =
    let i = c.parts.invariant.2 in
    let k = begun c.args.indentation (name_in c.args.names.now) c.name_of-name.result c.parts.depth c.in-Some-2.tag (omega (arith, c.parts.auto.depth-fits))
    c.name_of-name.ensures.name c.name_of-name.ensures.text in
    err_front g.met.S.TextSink.breaks_first _ (g.met.S.TextSink.breaks_second _ _ _ _ _
    (g.met.S.TextSink.adds_both _ _ _ _ _ i.holds c.in_ok-push_pending.ensures.ok)
    c.in_err-push_named_beginning.ensures.err) (leads_tag i.is k (search rules))

pub returns-in_default-split_letter-clause-text : goal.returns-in_default-split_letter-clause-text
returns-in_default-split_letter-clause-text g c =
    let i = c.parts.invariant.2 in
    let k = begun c.args.indentation (name_in c.args.names.now) c.name_of-name.result c.parts.depth c.in-Some-2.tag (omega (arith, c.parts.auto.depth-fits))
    c.name_of-name.ensures.name c.name_of-name.ensures.text in
    rw (← begun_trimmed i.is (no_type i.is k (search rules) (ap front_type (sym c.split_digits-number.ensures.behind)
    ∙ c.in_default-split_letter.ensures.none)) k.solid)
    (g.met.S.TextSink.adds_both _ _ _ _ _ (g.met.S.TextSink.adds_both _ _ _ _ _ i.holds c.in_ok-push_pending.ensures.ok)
    c.in_ok-push_named_beginning.ensures.ok)

pub returns-in_default-split_letter-clause-utf8 : goal.returns-in_default-split_letter-clause-utf8
returns-in_default-split_letter-clause-utf8 g c =
    let i = c.parts.invariant.2 in
    let k = begun c.args.indentation (name_in c.args.names.now) c.name_of-name.result c.parts.depth c.in-Some-2.tag (omega (arith, c.parts.auto.depth-fits))
    c.name_of-name.ensures.name c.name_of-name.ensures.text in
    stops_utf8 i.is (no_type i.is k (search rules) (ap front_type (sym c.split_digits-number.ensures.behind) ∙ c.in_default-split_letter.ensures.none))

pub returns-in_default-split_letter-clause-ends : goal.returns-in_default-split_letter-clause-ends
returns-in_default-split_letter-clause-ends g c =
    let i = c.parts.invariant.2 in
    let k = begun c.args.indentation (name_in c.args.names.now) c.name_of-name.result c.parts.depth c.in-Some-2.tag (omega (arith, c.parts.auto.depth-fits))
    c.name_of-name.ensures.name c.name_of-name.ensures.text in
    stops_ends i.is (no_type i.is k (search rules) (ap front_type (sym c.split_digits-number.ensures.behind) ∙ c.in_default-split_letter.ensures.none))
    c.end_at-in_default-split_letter.ensures.used c.end_at-in_default-split_letter.ensures.depth

pub returns-in_err-push_typed-clause-broken : goal.returns-in_err-push_typed-clause-broken
returns-in_err-push_typed-clause-broken g c =
    let i = c.parts.invariant.2 in
    let k = begun c.args.indentation (name_in c.args.names.now) c.name_of-name.result c.parts.depth c.in-Some-2.tag (omega (arith, c.parts.auto.depth-fits))
    c.name_of-name.ensures.name c.name_of-name.ensures.text in
    let typed = ap front_type (sym c.split_digits-number.ensures.behind) ∙ c.in-Some-split_letter.ensures.some in
    err_front g.met.S.TextSink.breaks_first _ (g.met.S.TextSink.breaks_second _ _ _ _ _
    (g.met.S.TextSink.adds_both _ _ _ _ _ i.holds c.in_ok-push_pending.ensures.ok) c.in_err-push_typed.ensures.err) (leads_type i.is k (search rules) typed)

pub returns-in_default-split_data-clause-text : goal.returns-in_default-split_data-clause-text
returns-in_default-split_data-clause-text g c =
    let i = c.parts.invariant.2 in
    let k = begun c.args.indentation (name_in c.args.names.now) c.name_of-name.result c.parts.depth c.in-Some-2.tag (omega (arith, c.parts.auto.depth-fits))
    c.name_of-name.ensures.name c.name_of-name.ensures.text in
    let typed = ap front_type (sym c.split_digits-number.ensures.behind) ∙ c.in-Some-split_letter.ensures.some in
    rw (← begun_trimmed i.is (no_data i.is k (search rules) typed c.in_default-split_data.ensures.none) (typed_solid _ k.solid))
    (g.met.S.TextSink.adds_both _ _ _ _ _ (g.met.S.TextSink.adds_both _ _ _ _ _ i.holds c.in_ok-push_pending.ensures.ok) c.in_ok-push_typed.ensures.ok)

pub returns-in_default-split_data-clause-utf8 : goal.returns-in_default-split_data-clause-utf8
returns-in_default-split_data-clause-utf8 g c =
    let i = c.parts.invariant.2 in
    let k = begun c.args.indentation (name_in c.args.names.now) c.name_of-name.result c.parts.depth c.in-Some-2.tag (omega (arith, c.parts.auto.depth-fits))
    c.name_of-name.ensures.name c.name_of-name.ensures.text in
    let typed = ap front_type (sym c.split_digits-number.ensures.behind) ∙ c.in-Some-split_letter.ensures.some in
    stops_utf8 i.is (no_data i.is k (search rules) typed c.in_default-split_data.ensures.none)

pub returns-in_default-split_data-clause-ends : goal.returns-in_default-split_data-clause-ends
returns-in_default-split_data-clause-ends g c =
    let i = c.parts.invariant.2 in
    let k = begun c.args.indentation (name_in c.args.names.now) c.name_of-name.result c.parts.depth c.in-Some-2.tag (omega (arith, c.parts.auto.depth-fits))
    c.name_of-name.ensures.name c.name_of-name.ensures.text in
    let typed = ap front_type (sym c.split_digits-number.ensures.behind) ∙ c.in-Some-split_letter.ensures.some in
    stops_ends i.is (no_data i.is k (search rules) typed c.in_default-split_data.ensures.none) c.end_at-in_default-split_data.ensures.used
    c.end_at-in_default-split_data.ensures.depth

pub parts-smaller : goal.parts-smaller
parts-smaller g c =
    let k = begun c.args.indentation (name_in c.args.names.now) c.name_of-name.result c.parts.depth c.in-Some-2.tag (omega (arith, c.parts.auto.depth-fits))
    c.name_of-name.ensures.name c.name_of-name.ensures.text in
    let typed = ap front_type (sym c.split_digits-number.ensures.behind) ∙ c.in-Some-split_letter.ensures.some in
    let utf8 : IsUtf8 c.in-Some-split_data.shows.now = search rules in
    (goes_item c.parts.invariant.2.is k (search rules) typed c.in-Some-split_data.ensures.some utf8).1

pub parts-preserved : goal.parts-preserved
parts-preserved g c =
    let i = c.parts.invariant.2 in
    let k = begun c.args.indentation (name_in c.args.names.now) c.name_of-name.result c.parts.depth c.in-Some-2.tag (omega (arith, c.parts.auto.depth-fits))
    c.name_of-name.ensures.name c.name_of-name.ensures.text in
    let typed = ap front_type (sym c.split_digits-number.ensures.behind) ∙ c.in-Some-split_letter.ensures.some in
    let utf8 : IsUtf8 c.in-Some-split_data.shows.now = search rules in
    let left : IsUtf8 c.in-Some-split_data.left.now = search rules in (
      left,
      utf8,
      record {
        text = _;
        is = (goes_item i.is k (search rules) typed c.in-Some-split_data.ensures.some utf8).0;
        holds = g.met.S.TextSink.adds_both _ _ _ _ _ (g.met.S.TextSink.adds_both _ _ _ _ _ i.holds c.in_ok-push_pending.ensures.ok)
            c.in_ok-push_typed.ensures.ok;
      },
    )
