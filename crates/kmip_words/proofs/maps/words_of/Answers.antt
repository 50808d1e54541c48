use Rattle.std.proofs.Common.{rules, arith, ◌∙◌, Some, None, ap, sym}
use Rattle.std.proofs.lemmas.Str.Pattern.{split_once_first}
use Rattle.kmip_words.specs.Rows.{first_of, row_of, word_said, word_in, word_named}
use Rattle.kmip_words.proofs.Found.{first_among, word_line, word_last}
use Rattle.kmip_words.proofs.maps.words_of.Goals as goal

pub lines-preserved : goal.lines-preserved
lines-preserved g c =
    let rest = c.lines.rest.now in
    let line = c.in-Some.line.now in
    let more = c.in-Some.more.now in
    let h = split_once_first 10 rest (Some (c.in-Some.line, c.in-Some.more)) c.in-Some.ensures.cases (omega arith) in
    record {
      text = search rules;
      read = λ list number. c.lines.invariant.read list number
          ∙ ap (first_of (word_in c.lines.words list number)) (word_line rest line more h.0 h.1 h.2 list number)
          ∙ first_among (word_in c.lines.words list number) (word_said (row_of line) list number) (word_named more list number)
          ∙ ap (λ o. first_of o (word_named more list number)) (sym (c.in_ok-add_word_in.ensures list number));
    }

pub returns : goal.returns
returns g c = λ list number.
    let rest = c.lines.rest.now in
    let none = split_once_first 10 rest None c.in_default.ensures.cases (omega arith) in
    c.in_ok-add_word_in-2.ensures list number
    ∙ ap (first_of (word_in c.lines.words list number)) (sym (word_last rest none list number))
    ∙ sym (c.lines.invariant.read list number)
