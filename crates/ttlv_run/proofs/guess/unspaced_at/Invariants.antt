use Rattle.std.proofs.Common.{◌≡◌, drop}
use Rattle.ttlv_run.specs.Guesses.{unspaced_at}
use Rattle.ttlv_run.proofs.guess.unspaced_at.Given as goal

abbrev pub invariant-loop-b : goal.invariant-loop-b
invariant-loop-b l = unspaced_at l.place l.text ≡ unspaced_at l.left (drop l.b-index l.text)
