use Rattle.std.proofs.Common.{option_map, ap, sym, ◌∙◌, rules}
use Rattle.std.specs.Str.{trim}
use Rattle.kmip_ttlv_reader.specs.Rules.{sides}
use Rattle.kmip_ttlv_reader.proofs.Cuts.{split_once_is, sides_are}
use Rattle.kmip_ttlv_reader.proofs.rules.sides.Goals as goal

pub returns-in_err-left : goal.returns-in_err-left
unfolding sides
returns-in_err-left c =
    let h = split_once_is c.args.operator.now c.args.body.now c.split_once.result c.split_once.ensures.cases in
    rw c.from_residual.ensures (ap (option_map (λ x. (trim x.0, trim x.1))) (ap (option_map (λ x. (x.0.now, x.1.now))) (sym c.in_err-left.was) ∙ h))

pub returns : goal.returns
returns c =
    let h = split_once_is c.args.operator.now c.args.body.now c.split_once.result c.split_once.ensures.cases in
    let s = sides_are c.args.operator.now c.args.body.now c.in_ok-left.left.now c.in_ok-left.right.now
    (ap (option_map (λ x. (x.0.now, x.1.now))) (sym c.in_ok-left.was) ∙ h) in
    rw s (search rules)
