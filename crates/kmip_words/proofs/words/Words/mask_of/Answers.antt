use Rattle.std.proofs.Common.{rules, ◌≡◌, ◌∙◌, option_and_then, bit_or, None, Some, ap, sym}
use Rattle.std.proofs.lemmas.Str.Pattern.{split_once_first}
use Rattle.kmip_words.specs.Words.{bits_with, pieces}
use Rattle.kmip_words.proofs.Back.{first_bits, last_bits, mask_is}
use Rattle.kmip_words.proofs.words.Words.mask_of.Goals as goal

pub words-init : goal.words-init
words-init g c = record { text = search rules; read = mask_is c.args.tag c.args.separator c.args.text.now }

pub returns-in_err-mask : goal.returns-in_err-mask
returns-in_err-mask g c =
    let rest = c.words.rest.now in
    let word = c.in-Some.word.now in
    let more = c.in-Some.more.now in
    let h = split_once_first c.args.separator rest (Some (c.in-Some.word, c.in-Some.more)) c.in-Some.ensures.cases c.requires in
    let none : c.from_residual.result ≡ None = search rules in
    none ∙ sym (c.words.invariant.read ∙ first_bits c.args.tag c.words.mask c.args.separator rest word more h.0 h.1 h.2
    ∙ ap (option_and_then (λ bit. bits_with c.args.tag (bit_or c.words.mask bit) (pieces c.args.separator more)))
    (sym c.value_of.ensures ∙ c.in_err-mask.was))

pub words-preserved : goal.words-preserved
words-preserved g c =
    let rest = c.words.rest.now in
    let word = c.in-Some.word.now in
    let more = c.in-Some.more.now in
    let h = split_once_first c.args.separator rest (Some (c.in-Some.word, c.in-Some.more)) c.in-Some.ensures.cases c.requires in
    record {
      text = search rules;
      read = c.words.invariant.read ∙ first_bits c.args.tag c.words.mask c.args.separator rest word more h.0 h.1 h.2
          ∙ ap (option_and_then (λ bit. bits_with c.args.tag (bit_or c.words.mask bit) (pieces c.args.separator more)))
          (sym c.value_of.ensures ∙ c.in_ok-mask.was);
    }

pub returns-in_err-value_of : goal.returns-in_err-value_of
returns-in_err-value_of g c =
    let rest = c.words.rest.now in
    let none : c.from_residual-in_err-value_of.result ≡ None = search rules in
    let last = split_once_first c.args.separator rest None c.in_default.ensures.cases c.requires in
    none ∙ sym (c.words.invariant.read ∙ last_bits c.args.tag c.words.mask c.args.separator rest last
    ∙ ap (option_and_then (λ bit. Some (bit_or c.words.mask bit))) (sym c.value_of-2.ensures ∙ c.in_err-value_of.was))

pub returns : goal.returns
returns g c =
    let rest = c.words.rest.now in
    let last = split_once_first c.args.separator rest None c.in_default.ensures.cases c.requires in
    sym (c.words.invariant.read ∙ last_bits c.args.tag c.words.mask c.args.separator rest last
    ∙ ap (option_and_then (λ bit. Some (bit_or c.words.mask bit))) (sym c.value_of-2.ensures ∙ c.in_ok-value_of.was))
