use Rattle.std.proofs.Common.{◌≡◌, ◌∙◌, ℕ, zero, suc, ◌+◌, ◌<◌, List, ◌∷◌, ◌++◌, refl, sym, ap, arith}
use Rattle.std.specs.Prelude.{codes}
use Rattle.kmip_ttlv_util.proofs.Saying.{adds_same, breaks_same, err_now}
use Rattle.kmip_ttlv_json.specs.Parts.{closes}
use Rattle.kmip_ttlv_json.proofs.print.push_closes.Goals as goal

closes_both : (n m : ℕ) → closes n ++ closes m ≡ closes (n + m)
closes_both zero m = let z : m ≡ 0 + m = omega arith in ap closes z
closes_both (suc n) m = let z : suc (n + m) ≡ suc n + m = omega arith in ap (λ (s : List ℕ). 93 ∷ 125 ∷ s) (closes_both n m) ∙ ap closes z

-- one more, and the others
some_left : (k : ℕ) → 0 < k → (m : ℕ) × (k ≡ suc m)
some_left zero lt = absurd (omega (arith, lt))
some_left (suc k) lt = (k, refl)

pub closing-init : goal.closing-init
closing-init g c = (0, omega arith, g.met.S.TextSink.adds_none c.args.out.now)

pub closing-preserved : goal.closing-preserved
closing-preserved g c =
    let i = c.closing.invariant in (
      i.0 + 1,
      omega (arith, i.1, c.closing-test.true),
      adds_same g.S.TextSink.adds g.S.TextSink.breaks _ _ _ _
          (g.met.S.TextSink.adds_both _ _ _ (closes i.0) (codes "]}") i.2 c.in_ok-push_str.ensures.ok) (closes_both i.0 1),
    )

pub returns-in_err-push_str-clause-err : goal.returns-in_err-push_str-clause-err
returns-in_err-push_str-clause-err g c =
    let i = c.closing.invariant in
    let more = some_left c.closing.left c.closing-test.true in
    let count : i.0 + suc more.0 ≡ c.args.count = ap (λ (k : ℕ). i.0 + k) (sym more.1) ∙ i.1 in
    let same : closes i.0 ++ (codes "]}" ++ closes more.0) ≡ closes c.args.count = closes_both i.0 (suc more.0) ∙ ap closes count in
    let here = g.met.S.TextSink.breaks_second _ _ _ (closes i.0) (codes "]}" ++ closes more.0) i.2
    (g.met.S.TextSink.breaks_first _ _ (codes "]}") (closes more.0) c.in_err-push_str.ensures.err) in
    err_now g.S.TextSink.adds g.S.TextSink.breaks _ _ _ _ (breaks_same g.S.TextSink.adds g.S.TextSink.breaks _ _ _ _ here same)

pub returns-clause-ok : goal.returns-clause-ok
returns-clause-ok g c =
    let i = c.closing.invariant in
    let all : i.0 ≡ c.args.count = omega (arith, i.1, c.closing-test.false) in
    adds_same g.S.TextSink.adds g.S.TextSink.breaks _ _ _ _ i.2 (ap closes all)
