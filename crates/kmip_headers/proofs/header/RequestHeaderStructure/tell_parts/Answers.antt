-- Written by codegen from types.table: change that, and run codegen/codegen.
-- What it answers, by what it holds.
use Rattle.kmip_headers.proofs.header.RequestHeaderStructure.tell_parts.Goals as goal

pub returns-clause-told : goal.returns-clause-told
returns-clause-told g c = g.W.Walk.steps.behind _ _ _ _ _ c.in_ok-four.ensures.told (g.W.Walk.steps.behind _ _ _ _ _ c.in_ok-four-2.ensures.told c.in_ok-four-3.ensures.told)
