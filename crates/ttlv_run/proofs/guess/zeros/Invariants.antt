use Rattle.std.proofs.Common.{◌≡◌, ◌+◌, drop}
use Rattle.ttlv_run.specs.Guesses.{zeros}
use Rattle.ttlv_run.proofs.guess.zeros.Given as goal

abbrev pub invariant-loop-b : goal.invariant-loop-b
invariant-loop-b l = (l.count ≡ l.b-index) × (zeros l.text ≡ l.count + zeros (drop l.b-index l.text))
