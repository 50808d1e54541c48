use Rattle.std.proofs.Common.{◌≡◌, drop}
use Rattle.ttlv_run.specs.Guesses.{first_byte}
use Rattle.ttlv_run.proofs.guess.first_byte.Given as goal

abbrev pub invariant-loop-b : goal.invariant-loop-b
invariant-loop-b l = first_byte l.text ≡ first_byte (drop l.b-index l.text)
