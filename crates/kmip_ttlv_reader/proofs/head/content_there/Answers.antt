use Rattle.std.proofs.Common.{rules, ◌≡◌, ◌+◌, length, nat_lt, false, take, drop, true, arith}
use Rattle.std.proofs.lemmas.{Result.err_from_is_err_and, Bool.le-ltb}
use Rattle.kmip_ttlv_types.specs.Leaves.{is_valid}
use Rattle.kmip_ttlv_reader.specs.Outcomes.{content_there, end_there}
use Rattle.kmip_ttlv_reader.proofs.Steps.{failure_then}
use Rattle.kmip_ttlv_reader.proofs.head.content_there.Goals as goal

pub returns-in_err-next-clause-step : goal.returns-in_err-next-clause-step
unfolding content_there
returns-in_err-next-clause-step g c =
    let p = err_from_is_err_and c.from_residual-in_err-next.result c.from_residual-in_err-next.ensures.1 in
    let wanted = rw c.fixed_length.ensures at c.in_ok-length_wanted.ensures in
    let there : nat_lt (length c.args.bytes.now) (c.args.pos + 8 + c.in_ok-n.n) ≡ false = le-ltb _ _ (omega (arith, c.in_ok-n.ensures.there)) in
    let valid : is_valid c.args.typ (take c.in_ok-n.n (drop (c.args.pos + 8) c.args.bytes.now)) ≡ true = search rules in
    rw (p.1, p.2, c.in_ok-n.ensures.step, wanted, there, valid) (failure_then (end_there c.args.bytes.now c.args.pos c.args.typ c.in_ok-n.n) _ _
    c.in_err-next.ensures.step)
