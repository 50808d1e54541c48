use Rattle.std.proofs.Common.{◌≡◌, length}
use denote.Text.{Utf8}
use denote.Shadow.{shadow}
use Rattle.ttlv_run.specs.Spellings.{tag_written}
use Rattle.ttlv_run.proofs.spelling.tag_written.Given as goal

abbrev pub invariant-lines : goal.invariant-lines
invariant-lines l = shadow (Utf8 l.rest) × (tag_written l.word l.table ≡ tag_written l.word l.rest)

abbrev pub decreases-lines : goal.decreases-lines
decreases-lines l = length l.rest
