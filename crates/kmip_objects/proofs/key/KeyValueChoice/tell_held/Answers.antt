-- Written by codegen from types.table: change that, and run codegen/codegen.
-- What it answers, by what it holds.
use Rattle.std.specs.Prelude.{OnOk}
use Rattle.kmip_ttlv_kinds.specs.Choices.{told_as}
use Rattle.kmip_objects.specs.Choices.{key_value_by}
use Rattle.kmip_objects.proofs.key.KeyValueChoice.tell_held.Goals as goal

pub returns-in-Plain-clause-told : goal.returns-in-Plain-clause-told
unfolding key_value_by
returns-in-Plain-clause-told g c = told_as (key_value_by _) (λ t. OnOk c.item.result (g.W.Walk.steps.Takes c.args.state.now t c.item.new.state)) c.in-Plain.is c.item.ensures.told

pub returns-in-Wrapped-clause-told : goal.returns-in-Wrapped-clause-told
unfolding key_value_by
returns-in-Wrapped-clause-told g c = told_as (key_value_by _) (λ t. OnOk c.item-in-Wrapped.result (g.W.Walk.steps.Takes c.args.state.now t c.item-in-Wrapped.new.state)) c.in-Wrapped.is c.item-in-Wrapped.ensures.told
