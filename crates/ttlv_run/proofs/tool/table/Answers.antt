use Rattle.std.proofs.Common.{refl}
use Rattle.std.proofs.lemmas.Result.{IfErr-weaker}
use Rattle.ttlv_run.specs.{declared.run_error.RunError.TheVariants.UnopenedInput, Reasons.error_line, Tables.table_line}
use Rattle.ttlv_run.specs.Tools.{unopened, no_table}
use Rattle.ttlv_run.proofs.tool.table.Goals as goal

pub returns-in-Some-open-clause-err : goal.returns-in-Some-open-clause-err
returns-in-Some-open-clause-err g c = IfErr-weaker c.own_table.result _ _ (λ status h. (
  table_line c.in-Some.path.now h.0,
  no_table c.in-Some.path c.in-Some-open.input _ h.0 c.in-Some.is c.in-Some-open.ensures h.1 h.2 refl,
  h.3,
)) c.own_table.ensures.err

pub returns-in-None-clause-err : goal.returns-in-None-clause-err
returns-in-None-clause-err g c =
    (error_line c.in-Some.path.now UnopenedInput, unopened c.in-Some.path c.in-Some.is c.in-None.ensures refl refl, c.report_words.ensures)
