use Rattle.std.proofs.Common.{rules, arith, ◌∙◌, Some, None, ap, sym}
use Rattle.std.proofs.lemmas.Str.Pattern.{split_once_first}
use Rattle.kmip_words.specs.Rows.{first_of, row_of, number_said, number_in, number_named}
use Rattle.kmip_words.proofs.Found.{first_among, number_line, number_last}
use Rattle.kmip_words.proofs.maps.numbers_of.Goals as goal

pub lines-preserved : goal.lines-preserved
lines-preserved g c =
    let rest = c.lines.rest.now in
    let line = c.in-Some.line.now in
    let more = c.in-Some.more.now in
    let h = split_once_first 10 rest (Some (c.in-Some.line, c.in-Some.more)) c.in-Some.ensures.cases (omega arith) in
    record {
      text = search rules;
      read = λ list word. c.lines.invariant.read list word
          ∙ ap (first_of (number_in c.lines.numbers list word)) (number_line rest line more h.0 h.1 h.2 list word)
          ∙ first_among (number_in c.lines.numbers list word) (number_said (row_of line) list word) (number_named more list word)
          ∙ ap (λ o. first_of o (number_named more list word)) (sym (c.in_ok-add_number_in.ensures list word));
    }

pub returns : goal.returns
returns g c = λ list word.
    let rest = c.lines.rest.now in
    let none = split_once_first 10 rest None c.in_default.ensures.cases (omega arith) in
    c.in_ok-add_number_in-2.ensures list word
    ∙ ap (first_of (number_in c.lines.numbers list word)) (sym (number_last rest none list word))
    ∙ sym (c.lines.invariant.read list word)
