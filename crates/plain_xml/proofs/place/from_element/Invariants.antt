use Rattle.std.proofs.Common.{◌≡◌, length}
use Rattle.plain_xml.specs.Faults.{steps}
use Rattle.plain_xml.specs.Places.{next_mark}
use Rattle.plain_xml.proofs.place.from_element.Given as goal

abbrev pub invariant-marks : goal.invariant-marks
invariant-marks g l = steps next_mark l.index l.text ≡ steps next_mark l.left l.rest

abbrev pub decreases-marks : goal.decreases-marks
decreases-marks g l = length l.rest
