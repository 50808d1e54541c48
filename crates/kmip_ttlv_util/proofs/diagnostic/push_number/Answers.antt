use Rattle.std.proofs.Common.{◌++◌, ◌∷◌, [], ap, List, ℕ, arith}
use Rattle.kmip_ttlv_util.proofs.HexDigits.{one_digit}
use Rattle.kmip_ttlv_util.proofs.Saying.{does_then, err_front, begins_equal}
use Rattle.kmip_ttlv_util.proofs.diagnostic.push_number.Goals as goal

pub returns-in_err-push_digits-clause-err : goal.returns-in_err-push_digits-clause-err
returns-in_err-push_digits-clause-err g c =
    err_front g.met.S.TextSink.breaks_first _ (g.met.S.TextSink.breaks_first _ _ _ (58 ∷ []) (c.in_err-push_digits.ensures.err))
    (begins_equal (ap (λ (s : List ℕ). s ++ (58 ∷ [])) (one_digit c.args.n (omega arith))))

pub returns : goal.returns
returns g c =
    let d = does_then g.met.S.TextSink.adds_both g.met.S.TextSink.breaks_second c.push_str.result (58 ∷ []) c.in_ok-push_digits.ensures.ok
    record { ok = c.push_str.ensures.ok; err = c.push_str.ensures.err } in
    let is = ap (λ (s : List ℕ). s ++ (58 ∷ [])) (one_digit c.args.n (omega arith)) in
    record { ok = rw (← is) d.ok; err = rw (← is) d.err }
