use Rattle.kmip_client.proofs.Deciding.{not_passed, passed}
use Rattle.kmip_client.proofs.Versions.{common, leads_on, none_common}
use Rattle.kmip_client.proofs.negotiation.first_common.Goals as goal

pub returns-then-is_among : goal.returns-then-is_among
returns-then-is_among c = common c.loop-first.invariant c.in-Some.ensures.cases.0 (passed c.is_among.ensures c.if-is_among.true)

pub loop-first-preserved : goal.loop-first-preserved
loop-first-preserved c =
    leads_on c.loop-first.invariant c.in-Some.ensures.cases.0 (not_passed c.is_among.result c.is_among.ensures c.if-is_among.false)

pub returns : goal.returns
returns c = none_common c.loop-first.invariant c.in_default.ensures.cases
