-- Written by codegen from types.table: change that, and run codegen/codegen.
-- What it answers, by what it holds.
use Rattle.std.specs.Prelude.{OnOk}
use Rattle.kmip_ttlv_kinds.specs.Choices.{told_as}
use Rattle.ttlv_vectors.specs.Choices.{named_by}
use Rattle.ttlv_vectors.proofs.chosen.NamedChoice.tell_held.Goals as goal

pub returns-in-Line-clause-told : goal.returns-in-Line-clause-told
unfolding named_by
returns-in-Line-clause-told g c = told_as (named_by _) (λ t. OnOk c.item.result (g.W.Walk.steps.Takes c.args.state.now t c.item.new.state)) c.in-Line.is c.item.ensures.told

pub returns-in-Count-clause-told : goal.returns-in-Count-clause-told
unfolding named_by
returns-in-Count-clause-told g c = told_as (named_by _) (λ t. OnOk c.item-in-Count.result (g.W.Walk.steps.Takes c.args.state.now t c.item-in-Count.new.state)) c.in-Count.is c.item-in-Count.ensures.told
