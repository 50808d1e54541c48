use Rattle.std.proofs.Common.{◌≡◌, [], sym, ◌∙◌, inr}
use Rattle.std.specs.Vec.Iter.{into_iter_items}
use Rattle.std.proofs.lemmas.List.{nil_from_length}
use Rattle.kmip_server.proofs.Going.{all_done, breaks_off, ends_here, err_holds, goes_on, starts}
use Rattle.kmip_server.proofs.batch.answer_items.Goals as goal

pub loop-item-init : goal.loop-item-init
loop-item-init g c =
    let left : into_iter_items c.into_iter-item-iterator.result ≡ c.args.items.items = c.into_iter-item-iterator.ensures.into_iter_gives.0 in
    let none : c.new-answers.result.items ≡ [] = c.new-answers.ensures.items in
    starts left none

pub loop-item-preserved : goal.loop-item-preserved
loop-item-preserved g c = goes_on c.loop-item.invariant _ _ _ _ _ c.in-Some.ensures.steps.0 c.in_ok-answer.ensures.answered
    (sym c.is_last-last.ensures ∙ c.if-last.false) c.in_ok-push.ensures.items

pub returns-clause-answered : goal.returns-clause-answered
returns-clause-answered g c = all_done c.loop-item.invariant (nil_from_length _ (sym c.loop-item.item-iterator.rest.ok.0 ∙ c.in-None.ensures.steps.0))

pub returns-then-last-clause-answered : goal.returns-then-last-clause-answered
returns-then-last-clause-answered g c = ends_here c.loop-item.invariant _ _ _ _ _ c.in-Some.ensures.steps.0 c.in_ok-answer.ensures.answered
    (sym c.is_last-last.ensures ∙ c.if-last.true) c.in_ok-push.ensures.items

pub returns-in_err-answer-clause-breaks_off : goal.returns-in_err-answer-clause-breaks_off
returns-in_err-answer-clause-breaks_off g c =
    err_holds _ (breaks_off c.loop-item.invariant _ _ _ _ c.in-Some.ensures.steps.0 c.in_err-answer.ensures.unanswered)

pub returns-in_err-push-clause-breaks_off : goal.returns-in_err-push-clause-breaks_off
returns-in_err-push-clause-breaks_off g c =
    let given = c.in_ok-answer.ensures.answered in
    err_holds _ (breaks_off c.loop-item.invariant _ _ _ _ c.in-Some.ensures.steps.0 (inr (given.outcome, given.done)))
