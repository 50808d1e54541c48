use Rattle.std.proofs.Common.{◌≡◌, ◌+◌, drop}
use Rattle.ttlv_captures.specs.Notations.{gap}
use Rattle.ttlv_captures.proofs.token.gap.Given as goal

abbrev pub invariant-loop-c : goal.invariant-loop-c
invariant-loop-c l = (l.count ≡ l.c-index) × (gap l.notation l.text ≡ l.count + gap l.notation (drop l.c-index l.text))
