use Rattle.std.proofs.Common.{rules, arith, Some, None, Option, ℕ, ap, sym, ◌∙◌}
use Rattle.std.proofs.lemmas.Str.Pattern.{split_once_first}
use Rattle.kmip_ttlv_names.specs.NameTables.{first_of}
use Rattle.ttlv_run.specs.Spellings.{tag_written}
use Rattle.ttlv_run.proofs.Written.{first_written, last_written}
use Rattle.ttlv_run.proofs.spelling.tag_written.Goals as goal

pub returns-in-Some-tag_in_line : goal.returns-in-Some-tag_in_line
returns-in-Some-tag_in_line c =
    let rest = c.lines.rest.now in
    let h = split_once_first 10 rest (Some (c.in-Some.line, c.in-Some.more)) c.in-Some.ensures.cases (omega arith) in
    ap (λ (o : Option ℕ). first_of o (tag_written c.args.word.now c.in-Some.more.now)) c.in-Some-tag_in_line.ensures
    ∙ sym (first_written c.args.word.now rest c.in-Some.line.now c.in-Some.more.now h.0 h.1 h.2) ∙ sym c.lines.invariant.1

pub lines-preserved : goal.lines-preserved
lines-preserved c =
    let rest = c.lines.rest.now in
    let h = split_once_first 10 rest (Some (c.in-Some.line, c.in-Some.more)) c.in-Some.ensures.cases (omega arith) in (
      search rules,
      c.lines.invariant.1 ∙ first_written c.args.word.now rest c.in-Some.line.now c.in-Some.more.now h.0 h.1 h.2
          ∙ ap (λ (o : Option ℕ). first_of o (tag_written c.args.word.now c.in-Some.more.now)) (sym c.in_default-tag_in_line.ensures),
    )

pub returns : goal.returns
returns c =
    let rest = c.lines.rest.now in
    let none = split_once_first 10 rest None c.in_default.ensures.cases (omega arith) in
    c.tag_in_line-2.ensures ∙ sym (last_written c.args.word.now rest none) ∙ sym c.lines.invariant.1
