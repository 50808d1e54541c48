use Rattle.std.proofs.Common.{◌≡◌, length}
use Rattle.plain_xml.specs.Faults.{steps}
use Rattle.plain_xml.specs.Documents.{progress_view, next_piece, start}
use Rattle.plain_xml.proofs.document.elements_of.Given as goal

abbrev pub invariant-marks : goal.invariant-marks
invariant-marks g l = steps next_piece start l.text ≡ steps next_piece (progress_view l.progress) l.rest

abbrev pub decreases-marks : goal.decreases-marks
decreases-marks g l = length l.rest
