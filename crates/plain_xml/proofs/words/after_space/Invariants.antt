use Rattle.std.proofs.Common.{◌≡◌, length}
use Rattle.plain_xml.specs.Reading.{after_space}
use Rattle.plain_xml.proofs.words.after_space.Given as goal

abbrev pub invariant-spaces : goal.invariant-spaces
invariant-spaces l = after_space l.text ≡ after_space l.rest

abbrev pub decreases-spaces : goal.decreases-spaces
decreases-spaces l = length l.rest
