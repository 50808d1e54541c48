use Rattle.std.proofs.Common.{◌≡◌, length}
use Rattle.kmip_words.specs.Dates.{without_zeros}
use Rattle.kmip_words.proofs.dates.without_zeros.Given as goal

abbrev pub invariant-zeros : goal.invariant-zeros
invariant-zeros l = without_zeros l.bytes ≡ without_zeros l.rest

abbrev pub decreases-zeros : goal.decreases-zeros
decreases-zeros l = length l.rest
