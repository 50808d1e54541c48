use Rattle.std.proofs.Common.{◌≡◌, drop}
use Rattle.ttlv_run.specs.Guesses.{has_message}
use Rattle.ttlv_run.proofs.guess.has_message.Given as goal

abbrev pub invariant-loop-i : goal.invariant-loop-i
invariant-loop-i l = has_message l.text ≡ has_message (drop l.i l.text)
