use Rattle.std.proofs.Common.{◌≡◌, ◌≤◌, length}
use Rattle.ttlv_run.specs.Spellings.{bare_name}
use Rattle.ttlv_run.proofs.spelling.next_letter.Given as goal

abbrev pub invariant-bytes : goal.invariant-bytes
invariant-bytes l = record { same : bare_name l.text ≡ bare_name l.rest; within : length l.rest ≤ length l.text }

abbrev pub decreases-bytes : goal.decreases-bytes
decreases-bytes l = length l.rest
