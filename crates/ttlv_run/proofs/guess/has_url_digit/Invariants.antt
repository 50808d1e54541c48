use Rattle.std.proofs.Common.{◌≡◌, drop}
use Rattle.ttlv_run.specs.Guesses.{has_url_digit}
use Rattle.ttlv_run.proofs.guess.has_url_digit.Given as goal

abbrev pub invariant-loop-b : goal.invariant-loop-b
invariant-loop-b l = has_url_digit l.text ≡ has_url_digit (drop l.b-index l.text)
