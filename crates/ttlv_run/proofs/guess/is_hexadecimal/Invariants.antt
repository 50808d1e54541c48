use Rattle.std.proofs.Common.{◌≡◌, drop}
use Rattle.ttlv_run.specs.Guesses.{is_hexadecimal}
use Rattle.ttlv_run.proofs.guess.is_hexadecimal.Given as goal

abbrev pub invariant-loop-b : goal.invariant-loop-b
invariant-loop-b l = is_hexadecimal l.text ≡ is_hexadecimal (drop l.b-index l.text)
