use Rattle.std.proofs.Common.{◌≤◌, length, drop}
use Rattle.std.specs.List.{AllPass}
use Rattle.hex_to_txt_run.specs.Inputs.{is_break}
use Rattle.hex_to_txt_run.proofs.input.cut_at_end.Given as goal

abbrev pub invariant-loop-end : goal.invariant-loop-end
invariant-loop-end l = (l.end ≤ length l.bytes) × AllPass is_break (drop l.end l.bytes)

abbrev pub decreases-loop-end : goal.decreases-loop-end
decreases-loop-end l = l.end
