use Rattle.std.proofs.Common.{◌++◌, Bool, ℕ, List, Option, Bor, ap, sym, ◌∙◌}
use Rattle.std.specs.Prelude.{option_map}
use Rattle.kmip_ttlv_util.proofs.Saying.{breaks_same, ok_same, err_same, err_now, ok_then, err_then}
use Rattle.ttlv_run.specs.Masks.{behind_mark}
use Rattle.ttlv_run.proofs.masks.push_bit.Goals as goal

abbrev shown_name : Bool → Option (Bor (List ℕ)) → List ℕ
shown_name first o = behind_mark first (option_map (λ (s : Bor (List ℕ)). s.now) o)

pub returns-in_err-push_str-in-Some-clause-err : goal.returns-in_err-push_str-in-Some-clause-err
returns-in_err-push_str-in-Some-clause-err g c =
    let name = c.in-Some.name.now in
    let m = c.mark.result.now in
    let same = ap (λ (s : List ℕ). s ++ name) c.mark.ensures ∙ ap (shown_name c.args.is_first) (sym c.in-Some.is) in
    err_now g.S.TextSink.adds g.S.TextSink.breaks _ _ _ _ (breaks_same g.S.TextSink.adds g.S.TextSink.breaks _ _ (m ++ name) _
    (g.met.S.TextSink.breaks_first _ _ m name c.in_err-push_str-in-Some.ensures.err) same)

pub returns-in_ok-push_str-in-Some-clause-ok : goal.returns-in_ok-push_str-in-Some-clause-ok
returns-in_ok-push_str-in-Some-clause-ok g c =
    let name = c.in-Some.name.now in
    let m = c.mark.result.now in
    let same = ap (λ (s : List ℕ). s ++ name) c.mark.ensures ∙ ap (shown_name c.args.is_first) (sym c.in-Some.is) in
    ok_same g.S.TextSink.adds g.S.TextSink.breaks c.push_str-in-Some.result _ _ (m ++ name) _
    (ok_then g.S.TextSink.adds g.S.TextSink.breaks g.met.S.TextSink.adds_both c.push_str-in-Some.result _ _ _ m name c.in_ok-push_str-in-Some.ensures.ok
    c.push_str-in-Some.ensures.ok) same

pub returns-in_ok-push_str-in-Some-clause-err : goal.returns-in_ok-push_str-in-Some-clause-err
returns-in_ok-push_str-in-Some-clause-err g c =
    let name = c.in-Some.name.now in
    let m = c.mark.result.now in
    let same = ap (λ (s : List ℕ). s ++ name) c.mark.ensures ∙ ap (shown_name c.args.is_first) (sym c.in-Some.is) in
    err_same g.S.TextSink.adds g.S.TextSink.breaks c.push_str-in-Some.result _ _ (m ++ name) _
    (err_then g.S.TextSink.adds g.S.TextSink.breaks g.met.S.TextSink.breaks_second c.push_str-in-Some.result _ _ _ m name
    c.in_ok-push_str-in-Some.ensures.ok c.push_str-in-Some.ensures.err) same
