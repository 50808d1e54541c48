-- Written by codegen from types.table: change that, and run codegen/codegen.
-- What it answers, by what it holds.
use Rattle.std.specs.Prelude.{OnOk}
use Rattle.kmip_ttlv_kinds.specs.Choices.{told_as}
use Rattle.create_destroy.specs.Choices.{request_payload_by}
use Rattle.create_destroy.proofs.request.RequestPayloadChoice.tell_held.Goals as goal

pub returns-in-Create-clause-told : goal.returns-in-Create-clause-told
unfolding request_payload_by
returns-in-Create-clause-told g c = told_as (request_payload_by _) (λ t. OnOk c.item.result (g.W.Walk.steps.Takes c.args.state.now t c.item.new.state)) c.in-Create.is c.item.ensures.told

pub returns-in-Destroy-clause-told : goal.returns-in-Destroy-clause-told
unfolding request_payload_by
returns-in-Destroy-clause-told g c = told_as (request_payload_by _) (λ t. OnOk c.item-in-Destroy.result (g.W.Walk.steps.Takes c.args.state.now t c.item-in-Destroy.new.state)) c.in-Destroy.is c.item-in-Destroy.ensures.told
