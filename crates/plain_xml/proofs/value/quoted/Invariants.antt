use Rattle.std.proofs.Common.{◌≡◌, [], length, string_bytes}
use Rattle.plain_xml.specs.Faults.{steps}
use Rattle.plain_xml.specs.Values.{more_of}
use Rattle.plain_xml.proofs.value.quoted.Given as goal

abbrev pub invariant-characters : goal.invariant-characters
invariant-characters g l = steps (more_of l.quote) [] l.text ≡ steps (more_of l.quote) (string_bytes l.value) l.rest

abbrev pub decreases-characters : goal.decreases-characters
decreases-characters g l = length l.rest
