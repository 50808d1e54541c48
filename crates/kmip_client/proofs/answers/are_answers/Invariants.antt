-- What is left decides, and gets shorter.
use Rattle.std.specs.Prelude.{◌↔◌, length, false}
use Rattle.kmip_client.specs.Answers.{AnswersAfter}
use Rattle.kmip_client.proofs.answers.are_answers.Given as goal

abbrev pub invariant-loop-first : goal.invariant-loop-first
invariant-loop-first g l = AnswersAfter false l.initial.asked l.initial.items ↔ AnswersAfter l.failed l.asked l.items

abbrev pub decreases-loop-first : goal.decreases-loop-first
decreases-loop-first g l = length l.items
