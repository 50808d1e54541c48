use Rattle.std.proofs.Common.{sym, ◌∙◌}
use Rattle.kmip_client.proofs.Refusing.{fails_on, fails_not, all_did}
use Rattle.kmip_client.proofs.answers.all_failed.Goals as goal

pub returns-then-not-is_failed : goal.returns-then-not-is_failed
returns-then-not-is_failed g c =
    fails_not c.loop-item.left.now c.loop-item.invariant c.in-Some.ensures.cases.0 (sym c.is_failed.ensures ∙ c.if-not-is_failed.true)

pub loop-item-preserved : goal.loop-item-preserved
loop-item-preserved g c =
    fails_on c.loop-item.left.now c.loop-item.invariant c.in-Some.ensures.cases.0 (sym c.is_failed.ensures ∙ c.if-not-is_failed.false)

pub returns : goal.returns
returns g c = all_did c.loop-item.left.now c.loop-item.invariant c.in_default.ensures.cases
