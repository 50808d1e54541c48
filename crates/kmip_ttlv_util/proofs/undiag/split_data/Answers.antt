use Rattle.std.proofs.Common.{◌≢◌, length, sym, ◌∙◌}
use Rattle.std.proofs.lemmas.Bool.{eqb-false}
use Rattle.kmip_ttlv_util.proofs.Parts.{data_value, data_no_value}
use Rattle.kmip_ttlv_util.proofs.undiag.split_data.Goals as goal

pub returns-in_default-split_value-clause-none : goal.returns-in_default-split_value-clause-none
returns-in_default-split_value-clause-none c =
    let some : length c.args.s.now ≢ 0 = eqb-false (length c.args.s.now) 0 (sym c.is_empty.ensures ∙ c.if-is_empty.false) in
    λ beginning tag. data_no_value beginning c.args.s.now c.args.depth tag c.args.typ c.in-Enumeration.is some c.in_default-split_value.ensures.none

pub returns-in-Some-clause-some : goal.returns-in-Some-clause-some
returns-in-Some-clause-some c =
    let some : length c.args.s.now ≢ 0 = eqb-false (length c.args.s.now) 0 (sym c.is_empty.ensures ∙ c.if-is_empty.false) in
    λ beginning tag. data_value beginning c.args.s.now c.in-Some.value.now c.in-Some.rest.now c.args.depth tag c.args.typ c.in-Enumeration.is some
    c.in-Some.ensures.some
