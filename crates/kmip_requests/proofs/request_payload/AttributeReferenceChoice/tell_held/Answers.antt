-- Written by codegen from types.table: change that, and run codegen/codegen.
-- What it answers, by what it holds.
use Rattle.std.specs.Prelude.{OnOk}
use Rattle.kmip_ttlv_kinds.specs.Choices.{told_as}
use Rattle.kmip_requests.specs.Choices.{attribute_reference_by}
use Rattle.kmip_requests.proofs.request_payload.AttributeReferenceChoice.tell_held.Goals as goal

pub returns-in-Tag-clause-told : goal.returns-in-Tag-clause-told
unfolding attribute_reference_by
returns-in-Tag-clause-told g c = told_as (attribute_reference_by _) (λ t. OnOk c.item.result (g.W.Walk.steps.Takes c.args.state.now t c.item.new.state)) c.in-Tag.is c.item.ensures.told

pub returns-in-Named-clause-told : goal.returns-in-Named-clause-told
unfolding attribute_reference_by
returns-in-Named-clause-told g c = told_as (attribute_reference_by _) (λ t. OnOk c.item-in-Named.result (g.W.Walk.steps.Takes c.args.state.now t c.item-in-Named.new.state)) c.in-Named.is c.item-in-Named.ensures.told
