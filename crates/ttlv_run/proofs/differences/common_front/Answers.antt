use Rattle.std.proofs.Common.{arith, sym, ◌∙◌}
use Rattle.ttlv_run.proofs.LineLists.{front_more, same_texts, differ_there}
use Rattle.ttlv_run.proofs.differences.common_front.Goals as goal

pub lines-preserved : goal.lines-preserved
lines-preserved c = (
  omega arith,
  omega arith,
  front_more c.args.first.now c.args.second.now c.lines.count _ (omega arith) (omega arith)
      (same_texts (sym c.eq.ensures ∙ c.if-eq.true)) c.lines.invariant.2,
)

pub returns-else-eq-clause-longest : goal.returns-else-eq-clause-longest
returns-else-eq-clause-longest c a b =
    differ_there c.args.first.now c.args.second.now c.lines.count _ a b (sym c.eq.ensures ∙ c.if-eq.false)
