use Rattle.std.specs.Vec.Iter.{into_iter_items}
use Rattle.kmip_server.specs.Items.{Answers, IsDone, ends}
use Rattle.kmip_server.proofs.Going.{IsGoing}
use Rattle.kmip_server.proofs.batch.answer_items.Given as goal

-- the items before those that are left are answered
abbrev pub invariant-loop-item : goal.invariant-loop-item
invariant-loop-item g l =
    let handler = g.H.Handler in
    IsGoing (Answers (IsDone handler.Does handler.declaration g.D.Codec.ReadsItem) g.D.Codec.IsSound) (ends l.stops)
    l.fn.handler l.fn.items.items l.answers.items l.handler (into_iter_items l.item-iterator)
