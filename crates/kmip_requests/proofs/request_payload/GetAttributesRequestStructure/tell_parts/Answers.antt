-- Written by codegen from types.table: change that, and run codegen/codegen.
-- What it answers, by what it holds.
use Rattle.kmip_requests.proofs.request_payload.GetAttributesRequestStructure.tell_parts.Goals as goal

pub returns-clause-told : goal.returns-clause-told
returns-clause-told g c = g.W.Walk.steps.checked _ _ _ _ _ (g.W.Walk.steps.behind _ _ _ _ _ c.in_ok-one.ensures.told (g.W.Walk.steps.behind _ _ _ _ _ c.in_ok-one-2.ensures.told c.in_ok-kept.ensures.told)) c.check.ensures
