use Rattle.std.proofs.Common.{◌≡◌, length}
use Rattle.plain_xml.specs.Skipping.{after_instruction}
use Rattle.plain_xml.proofs.skipped.after_instruction.Given as goal

abbrev pub invariant-characters : goal.invariant-characters
invariant-characters l = after_instruction l.text ≡ after_instruction l.rest

abbrev pub decreases-characters : goal.decreases-characters
decreases-characters l = length l.rest
