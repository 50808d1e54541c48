use Rattle.std.proofs.Common.{refl, subst}
use Rattle.std.specs.Prelude.{codes}
use Rattle.ttlv_run.specs.{Tags.IsWhyNot, Tools.line_of, Tools.no_tag}
use Rattle.ttlv_run.proofs.tool.tags_of.Goals as goal

pub returns-in-Err-NoTag-clause-err : goal.returns-in-Err-NoTag-clause-err
returns-in-Err-NoTag-clause-err g c =
    let word = c.in-Err-NoTag.word in
    let not = subst (IsWhyNot c.args.table.now c.args.words.now) c.in-Err-NoTag.field-0-is c.in-Err-NoTag.ensures.err in
    (line_of word.now (codes "no tag has this name"), no_tag word not refl refl, c.report_words.ensures)
