use Rattle.std.proofs.Common.{◌≡◌, length}
use Rattle.std.specs.Prelude.{bytes_eq}
use Rattle.ttlv_run.specs.Spellings.{bare_name}
use Rattle.ttlv_run.proofs.spelling.is_same.Given as goal

abbrev pub invariant-letters : goal.invariant-letters
invariant-letters l = bytes_eq (bare_name l.name) (bare_name l.word) ≡ bytes_eq (bare_name l.left) (bare_name l.right)

abbrev pub decreases-letters : goal.decreases-letters
decreases-letters l = length l.left
