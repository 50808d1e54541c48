-- Written by codegen from types.table: change that, and run codegen/codegen.
-- What it answers, by what it holds.
use Rattle.create_destroy.proofs.attribute.AttributeStructure.tell_parts.Goals as goal

pub returns-clause-told : goal.returns-clause-told
returns-clause-told g c = g.W.Walk.steps.checked _ _ _ _ _ c.in_ok-two.ensures.told c.check.ensures
