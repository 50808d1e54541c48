use Rattle.std.proofs.Common.{refl}
use Rattle.kmip_client.proofs.Answering.{goes_on, differs, ends, is_done}
use Rattle.kmip_client.proofs.answers.are_answers.Goals as goal

pub returns-in_default-split_first : goal.returns-in_default-split_first
returns-in_default-split_first g c =
    ends c.loop-first.failed {asked = c.loop-first.asked.now} c.loop-first.items.now c.loop-first.invariant c.in-Some.ensures.cases.0
    c.in_default-split_first.ensures.cases

pub returns-then-not-is_answer : goal.returns-then-not-is_answer
returns-then-not-is_answer g c =
    differs c.loop-first.failed {asked = c.loop-first.asked.now} {items = c.loop-first.items.now} c.loop-first.invariant c.in-Some.ensures.cases.0
    c.in-Some-split_first.ensures.cases.0 (λ h. cc (c.if-not-is_answer.ensures.1 h))

pub loop-first-preserved : goal.loop-first-preserved
loop-first-preserved g c =
    goes_on c.loop-first.failed c.is_failed-failed.result {asked = c.loop-first.asked.now} {items = c.loop-first.items.now} c.loop-first.invariant
    c.in-Some.ensures.cases.0 c.in-Some-split_first.ensures.cases.0 (c.if-not-is_answer.ensures.0 refl) c.is_failed-failed.ensures

pub returns : goal.returns
returns g c =
    is_done c.loop-first.failed c.is_empty.result c.loop-first.asked.now c.loop-first.items.now c.loop-first.invariant
    c.in_default.ensures.cases c.is_empty.ensures
