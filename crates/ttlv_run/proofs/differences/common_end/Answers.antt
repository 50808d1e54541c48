use Rattle.std.proofs.Common.{arith, sym, ◌∙◌}
use Rattle.ttlv_run.proofs.LineLists.{end_more, same_texts}
use Rattle.ttlv_run.proofs.differences.common_end.Goals as goal

pub lines-preserved : goal.lines-preserved
lines-preserved c = (
  omega arith,
  omega arith,
  end_more c.args.first.now c.args.second.now c.lines.count _ (omega arith) (omega arith)
      (same_texts (sym c.eq.ensures ∙ c.if-eq.true)) c.lines.invariant.2,
)
