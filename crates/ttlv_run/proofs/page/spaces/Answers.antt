use Rattle.std.proofs.Common.{arith}
use Rattle.ttlv_run.proofs.Pages.{spaces_more, spaces_end}
use Rattle.ttlv_run.proofs.page.spaces.Goals as goal

pub spaces-preserved : goal.spaces-preserved
spaces-preserved c =
    omega (arith, c.spaces.invariant, spaces_more c.args.text.now c.spaces.count c.spaces-test.true c.if-text-count-eq32.true)

pub returns-else-text-count-eq32 : goal.returns-else-text-count-eq32
returns-else-text-count-eq32 c =
    omega (arith, c.spaces.invariant, spaces_end c.args.text.now c.spaces.count (λ lt. c.if-text-count-eq32.false))

pub returns-after-spaces : goal.returns-after-spaces
returns-after-spaces c =
    omega (arith, c.spaces.invariant, spaces_end c.args.text.now c.spaces.count (λ lt. absurd (omega (arith, lt, c.spaces-test.false))))
