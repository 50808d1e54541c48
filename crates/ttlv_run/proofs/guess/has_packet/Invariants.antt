use Rattle.std.proofs.Common.{◌≡◌, drop}
use Rattle.ttlv_run.specs.Guesses.{has_packet}
use Rattle.ttlv_run.proofs.guess.has_packet.Given as goal

abbrev pub invariant-loop-i : goal.invariant-loop-i
invariant-loop-i l = has_packet l.text ≡ has_packet (drop l.i l.text)
