-- Written by codegen from types.table: change that, and run codegen/codegen.
-- What it answers, by what it holds.
use Rattle.std.specs.Prelude.{OnOk}
use Rattle.kmip_ttlv_kinds.specs.Choices.{told_as}
use Rattle.kmip_headers.specs.Choices.{asynchronous_indicator_by}
use Rattle.kmip_headers.proofs.header.AsynchronousIndicatorChoice.tell_held.Goals as goal

pub returns-in-Boolean-clause-told : goal.returns-in-Boolean-clause-told
unfolding asynchronous_indicator_by
returns-in-Boolean-clause-told g c = told_as (asynchronous_indicator_by _) (λ t. OnOk c.item.result (g.W.Walk.steps.Takes c.args.state.now t c.item.new.state)) c.in-Boolean.is c.item.ensures.told

pub returns-in-Enumeration-clause-told : goal.returns-in-Enumeration-clause-told
unfolding asynchronous_indicator_by
returns-in-Enumeration-clause-told g c = told_as (asynchronous_indicator_by _) (λ t. OnOk c.item-in-Enumeration.result (g.W.Walk.steps.Takes c.args.state.now t c.item-in-Enumeration.new.state)) c.in-Enumeration.is c.item-in-Enumeration.ensures.told
