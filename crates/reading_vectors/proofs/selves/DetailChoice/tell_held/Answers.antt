-- Written by codegen from types.table: change that, and run codegen/codegen.
-- What it answers, by what it holds.
use Rattle.std.specs.Prelude.{OnOk}
use Rattle.kmip_ttlv_kinds.specs.Choices.{told_as}
use Rattle.reading_vectors.specs.Choices.{detail_by}
use Rattle.reading_vectors.proofs.selves.DetailChoice.tell_held.Goals as goal

pub returns-in-Point-clause-told : goal.returns-in-Point-clause-told
unfolding detail_by
returns-in-Point-clause-told g c = told_as (detail_by _) (λ t. OnOk c.item.result (g.W.Walk.steps.Takes c.args.state.now t c.item.new.state)) c.in-Point.is c.item.ensures.told

pub returns-in-Text-clause-told : goal.returns-in-Text-clause-told
unfolding detail_by
returns-in-Text-clause-told g c = told_as (detail_by _) (λ t. OnOk c.item-in-Text.result (g.W.Walk.steps.Takes c.args.state.now t c.item-in-Text.new.state)) c.in-Text.is c.item-in-Text.ensures.told

pub returns-in-Mark-clause-told : goal.returns-in-Mark-clause-told
unfolding detail_by
returns-in-Mark-clause-told g c = told_as (detail_by _) (λ t. OnOk c.item-in-Mark.result (g.W.Walk.steps.Takes c.args.state.now t c.item-in-Mark.new.state)) c.in-Mark.is c.item-in-Mark.ensures.told
