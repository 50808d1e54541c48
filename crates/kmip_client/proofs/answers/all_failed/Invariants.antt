-- What is left decides, and gets shorter.
use Rattle.std.specs.Prelude.{◌↔◌, length}
use Rattle.kmip_client.specs.Answers.{AllFailed}
use Rattle.kmip_client.proofs.answers.all_failed.Given as goal

abbrev pub invariant-loop-item : goal.invariant-loop-item
invariant-loop-item g l = AllFailed l.items ↔ AllFailed l.left

abbrev pub decreases-loop-item : goal.decreases-loop-item
decreases-loop-item g l = length l.left
