-- Written by codegen from types.table: change that, and run codegen/codegen.
-- What it answers, by what it holds.
use Rattle.std.specs.Prelude.{OnOk}
use Rattle.kmip_ttlv_kinds.specs.Choices.{told_as}
use Rattle.create_destroy.specs.Choices.{attribute_value_by}
use Rattle.create_destroy.proofs.attribute.AttributeValueChoice.tell_held.Goals as goal

pub returns-in-Aes-clause-told : goal.returns-in-Aes-clause-told
unfolding attribute_value_by
returns-in-Aes-clause-told g c = told_as (attribute_value_by _) (λ t. OnOk c.item.result (g.W.Walk.steps.Takes c.args.state.now t c.item.new.state)) c.in-Aes.is c.item.ensures.told

pub returns-in-Integer-clause-told : goal.returns-in-Integer-clause-told
unfolding attribute_value_by
returns-in-Integer-clause-told g c = told_as (attribute_value_by _) (λ t. OnOk c.item-in-Integer.result (g.W.Walk.steps.Takes c.args.state.now t c.item-in-Integer.new.state)) c.in-Integer.is c.item-in-Integer.ensures.told
