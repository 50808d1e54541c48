use Rattle.std.proofs.Common.{ap, sym, ◌∙◌, codes, option_map}
use Rattle.std.specs.Option.{option_and_then}
use Rattle.kmip_ttlv_reader.specs.Rules.{in_brackets, before_suffix}
use Rattle.kmip_ttlv_reader.proofs.Cuts.{stripped_prefix, stripped_suffix}
use Rattle.kmip_ttlv_reader.proofs.rules.in_brackets.Goals as goal

pub returns-in_err-strip_prefix : goal.returns-in_err-strip_prefix
unfolding in_brackets
returns-in_err-strip_prefix c =
    let front = stripped_prefix (codes "[") c.args.text.now c.strip_prefix.result c.strip_prefix.ensures.cases in
    rw c.from_residual.ensures (ap (option_and_then (before_suffix (codes "]"))) (ap (option_map (λ x. x.now)) (sym c.in_err-strip_prefix.was) ∙ front))

pub returns : goal.returns
unfolding in_brackets
returns c =
    let front = stripped_prefix (codes "[") c.args.text.now c.strip_prefix.result c.strip_prefix.ensures.cases in
    stripped_suffix (codes "]") c.in_ok-strip_prefix.field-0.now c.strip_suffix.result c.strip_suffix.ensures.cases
    ∙ ap (option_and_then (before_suffix (codes "]"))) (ap (option_map (λ x. x.now)) (sym c.in_ok-strip_prefix.was) ∙ front)
