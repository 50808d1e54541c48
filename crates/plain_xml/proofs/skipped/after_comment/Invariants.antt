use Rattle.std.proofs.Common.{◌≡◌, length}
use Rattle.plain_xml.specs.Skipping.{after_comment}
use Rattle.plain_xml.proofs.skipped.after_comment.Given as goal

abbrev pub invariant-characters : goal.invariant-characters
invariant-characters l = after_comment l.text ≡ after_comment l.rest

abbrev pub decreases-characters : goal.decreases-characters
decreases-characters l = length l.rest
