-- Written by codegen from types.table: change that, and run codegen/codegen.
-- What it answers, by what it holds.
use Rattle.std.specs.Prelude.{OnOk}
use Rattle.kmip_ttlv_kinds.specs.Choices.{told_as}
use Rattle.kmip_objects.specs.Choices.{key_material_by}
use Rattle.kmip_objects.proofs.key.KeyMaterialChoice.tell_held.Goals as goal

pub returns-in-Bytes-clause-told : goal.returns-in-Bytes-clause-told
unfolding key_material_by
returns-in-Bytes-clause-told g c = told_as (key_material_by _) (λ t. OnOk c.item.result (g.W.Walk.steps.Takes c.args.state.now t c.item.new.state)) c.in-Bytes.is c.item.ensures.told

pub returns-in-Structure-clause-told : goal.returns-in-Structure-clause-told
unfolding key_material_by
returns-in-Structure-clause-told g c = told_as (key_material_by _) (λ t. OnOk c.item-in-Structure.result (g.W.Walk.steps.Takes c.args.state.now t c.item-in-Structure.new.state)) c.in-Structure.is c.item-in-Structure.ensures.told
