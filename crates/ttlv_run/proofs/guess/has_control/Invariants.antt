use Rattle.std.proofs.Common.{◌≡◌, drop}
use Rattle.ttlv_run.specs.Guesses.{has_control}
use Rattle.ttlv_run.proofs.guess.has_control.Given as goal

abbrev pub invariant-loop-b : goal.invariant-loop-b
invariant-loop-b l = has_control l.bytes ≡ has_control (drop l.b-index l.bytes)
