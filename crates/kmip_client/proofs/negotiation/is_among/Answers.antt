use Rattle.kmip_client.proofs.Deciding.{not_passed, passed}
use Rattle.kmip_client.proofs.Versions.{is_behind, is_here, is_nowhere}
use Rattle.kmip_client.proofs.negotiation.is_among.Goals as goal

pub returns-then-is_same_version : goal.returns-then-is_same_version
returns-then-is_same_version c =
    is_here {v = c.args.version} {left = c.loop-first.left.now} c.loop-first.invariant c.in-Some.ensures.cases.0
    (passed c.is_same_version.ensures c.if-is_same_version.true)

pub loop-first-preserved : goal.loop-first-preserved
loop-first-preserved c =
    is_behind {v = c.args.version} {left = c.loop-first.left.now} c.loop-first.invariant c.in-Some.ensures.cases.0
    (not_passed c.is_same_version.result c.is_same_version.ensures c.if-is_same_version.false)

pub returns : goal.returns
returns c = is_nowhere c.args.version c.loop-first.left.now c.loop-first.invariant c.in_default.ensures.cases
