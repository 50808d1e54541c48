use Rattle.std.proofs.Common.{rules, ◌≡◌, ◌∙◌, ◌<◌, ◌^◌, IfSome, None, Some, sym}
use Rattle.kmip_words.proofs.Back.{tag_is, below_is}
use Rattle.kmip_words.proofs.words.Words.tag_of.Goals as goal

pub returns-in_err-number : goal.returns-in_err-number
returns-in_err-number g c =
    let none : c.from_residual.result ≡ None = search rules in
    none ∙ sym (tag_is c.args.word.now None (sym c.number_of.ensures ∙ c.in_err-number.was))

pub returns : goal.returns
returns g c =
    let small : IfSome c.from_number.result (λ t. t < 2 ^ 24) = search rules in
    below_is c.from_number.result c.in_ok-number.number c.from_number.ensures.some c.from_number.ensures.none small
    ∙ sym (tag_is c.args.word.now (Some c.in_ok-number.number) (sym c.number_of.ensures ∙ c.in_ok-number.was))
