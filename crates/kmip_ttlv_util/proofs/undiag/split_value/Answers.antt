use Rattle.std.proofs.Common.{◌≡◌, length, Some, None, ◌∙◌, sym, ap, arith, eqb}
use Rattle.std.specs.List.{position_or_len}
use Rattle.std.proofs.lemmas.{Bool.eqb-true, Bool.eqb-false, List.length-take-le, Str.Pattern.split_once_first}
use Rattle.kmip_ttlv_util.specs.Undiag.{front_value}
use Rattle.kmip_ttlv_util.proofs.Fronts.{value_none, value_empty, value_some}
use Rattle.kmip_ttlv_util.proofs.undiag.split_value.Goals as goal

pub returns-in_default-clause-none : goal.returns-in_default-clause-none
unfolding front_value
returns-in_default-clause-none c = value_none c.args.s.now _ (split_once_first 58 c.args.s.now None c.in_default.ensures.cases (omega arith))

pub returns-then-is_empty-clause-none : goal.returns-then-is_empty-clause-none
unfolding front_value
returns-then-is_empty-clause-none c =
    let h = split_once_first 58 c.args.s.now (Some (c.in-Some.value, c.in-Some.rest)) c.in-Some.ensures.cases (omega arith) in
    let none : length c.in-Some.value.now ≡ 0 = eqb-true (length c.in-Some.value.now) 0 (sym c.is_empty.ensures ∙ c.if-is_empty.true) in
    value_empty c.args.s.now _ (sym (length-take-le (position_or_len (λ b. eqb b 58) c.args.s.now) c.args.s.now (omega (arith, h.0)))
    ∙ ap length (sym h.1) ∙ none)

pub returns-clause-some : goal.returns-clause-some
unfolding front_value
returns-clause-some c =
    let h = split_once_first 58 c.args.s.now (Some (c.in-Some.value, c.in-Some.rest)) c.in-Some.ensures.cases (omega arith) in
    let some : length c.in-Some.value.now ≡ 0 → ⊥ = eqb-false (length c.in-Some.value.now) 0 (sym c.is_empty.ensures ∙ c.if-is_empty.false) in
    let size : length c.in-Some.value.now ≡ position_or_len (λ b. eqb b 58) c.args.s.now = ap length h.1
    ∙ length-take-le (position_or_len (λ b. eqb b 58) c.args.s.now) c.args.s.now (omega (arith, h.0)) in
    value_some c.args.s.now _ c.in-Some.value.now c.in-Some.rest.now (omega (arith, size)) h.0 h.1 h.2
