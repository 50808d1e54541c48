use Rattle.std.proofs.Common.{◌≡◌, ◌++◌, List, ℕ, true, length, take, drop, arith, ap, subst, ◌∙◌}
use Rattle.std.specs.List.{list_all}
use Rattle.kmip_ttlv_util.proofs.Saying.{breaks_same, ok_same, err_same, err_now, ok_then, err_then}
use Rattle.ttlv_run.specs.Escapes.{is_bare_ascii, escape}
use Rattle.ttlv_run.proofs.Plain.{front_escaped, front_boundary}
use Rattle.ttlv_run.proofs.escape.push_text.Goals as goal

pub split_at-requires : goal.split_at-requires
split_at-requires g c =
    let is = c.as_bytes.ensures.value in
    front_boundary c.args.text.now c.shown_front.result c.utf8.text
    (omega (arith, c.shown_front.ensures.within, ap (λ (t : List ℕ). length t) is))
    (subst (λ (t : List ℕ). list_all is_bare_ascii (take c.shown_front.result t) ≡ true) is c.shown_front.ensures.all)

pub returns-in_err-append-clause-err : goal.returns-in_err-append-clause-err
returns-in_err-append-clause-err g c =
    let n = c.shown_front.result in
    let all = subst (λ (t : List ℕ). list_all is_bare_ascii (take n t) ≡ true) c.as_bytes.ensures.value c.shown_front.ensures.all in
    let rest = drop n c.args.text.now in
    let same = ap (λ (t : List ℕ). t ++ escape rest) c.split_at.ensures.front ∙ front_escaped c.args.text.now n all in
    err_now g.S.PlainSink.adds g.S.PlainSink.breaks _ _ _ _ (breaks_same g.S.PlainSink.adds g.S.PlainSink.breaks _ _ (c.split_at.result.0.now ++ escape rest) _
    (g.met.S.PlainSink.breaks_first _ _ c.split_at.result.0.now (escape rest) c.in_err-append.ensures.err) same)

pub returns-clause-ok : goal.returns-clause-ok
returns-clause-ok g c =
    let n = c.shown_front.result in
    let all = subst (λ (t : List ℕ). list_all is_bare_ascii (take n t) ≡ true) c.as_bytes.ensures.value c.shown_front.ensures.all in
    let front = c.split_at.result.0.now in
    let rest = c.split_at.result.1.now in
    let same = ap (λ (t : List ℕ). t ++ escape rest) c.split_at.ensures.front
    ∙ ap (λ (t : List ℕ). take n c.args.text.now ++ escape t) c.split_at.ensures.back ∙ front_escaped c.args.text.now n all in
    ok_same g.S.PlainSink.adds g.S.PlainSink.breaks c.push_chars.result _ _ (front ++ escape rest) _
    (ok_then g.S.PlainSink.adds g.S.PlainSink.breaks g.met.S.PlainSink.adds_both c.push_chars.result _ _ _ front (escape rest) c.in_ok-append.ensures.ok
    c.push_chars.ensures.ok) same

pub returns-clause-err : goal.returns-clause-err
returns-clause-err g c =
    let n = c.shown_front.result in
    let all = subst (λ (t : List ℕ). list_all is_bare_ascii (take n t) ≡ true) c.as_bytes.ensures.value c.shown_front.ensures.all in
    let front = c.split_at.result.0.now in
    let rest = c.split_at.result.1.now in
    let same = ap (λ (t : List ℕ). t ++ escape rest) c.split_at.ensures.front
    ∙ ap (λ (t : List ℕ). take n c.args.text.now ++ escape t) c.split_at.ensures.back ∙ front_escaped c.args.text.now n all in
    err_same g.S.PlainSink.adds g.S.PlainSink.breaks c.push_chars.result _ _ (front ++ escape rest) _
    (err_then g.S.PlainSink.adds g.S.PlainSink.breaks g.met.S.PlainSink.breaks_second c.push_chars.result _ _ _ front (escape rest)
    c.in_ok-append.ensures.ok c.push_chars.ensures.err) same
