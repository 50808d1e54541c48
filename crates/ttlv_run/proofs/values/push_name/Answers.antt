use Rattle.std.proofs.Common.{◌∷◌, ℕ, List, Option, Bor, ap, sym}
use Rattle.std.specs.Prelude.{codes, option_map}
use Rattle.kmip_ttlv_util.proofs.Saying.{breaks_same, ok_same, err_same, err_now, ok_then, err_then}
use Rattle.ttlv_run.specs.Texts.{behind_space}
use Rattle.ttlv_run.proofs.values.push_name.Goals as goal

abbrev shown_name : Option (Bor (List ℕ)) → List ℕ
shown_name o = behind_space (option_map (λ (s : Bor (List ℕ)). s.now) o)

pub returns-in_err-push_str-in-Some-clause-err : goal.returns-in_err-push_str-in-Some-clause-err
returns-in_err-push_str-in-Some-clause-err g c =
    let name = c.in-Some.name.now in
    err_now g.S.TextSink.adds g.S.TextSink.breaks _ _ _ _ (breaks_same g.S.TextSink.adds g.S.TextSink.breaks _ _ (32 ∷ name) _
    (g.met.S.TextSink.breaks_first _ _ (codes " ") name c.in_err-push_str-in-Some.ensures.err) (ap shown_name (sym c.in-Some.is)))

pub returns-in_ok-push_str-in-Some-clause-ok : goal.returns-in_ok-push_str-in-Some-clause-ok
returns-in_ok-push_str-in-Some-clause-ok g c =
    let name = c.in-Some.name.now in
    ok_same g.S.TextSink.adds g.S.TextSink.breaks c.push_str-in-Some.result _ _ (32 ∷ name) _
    (ok_then g.S.TextSink.adds g.S.TextSink.breaks g.met.S.TextSink.adds_both c.push_str-in-Some.result _ _ _
    (codes " ") name c.in_ok-push_str-in-Some.ensures.ok c.push_str-in-Some.ensures.ok) (ap shown_name (sym c.in-Some.is))

pub returns-in_ok-push_str-in-Some-clause-err : goal.returns-in_ok-push_str-in-Some-clause-err
returns-in_ok-push_str-in-Some-clause-err g c =
    let name = c.in-Some.name.now in
    err_same g.S.TextSink.adds g.S.TextSink.breaks c.push_str-in-Some.result _ _ (32 ∷ name) _
    (err_then g.S.TextSink.adds g.S.TextSink.breaks g.met.S.TextSink.breaks_second c.push_str-in-Some.result _ _ _
    (codes " ") name c.in_ok-push_str-in-Some.ensures.ok c.push_str-in-Some.ensures.err) (ap shown_name (sym c.in-Some.is))
