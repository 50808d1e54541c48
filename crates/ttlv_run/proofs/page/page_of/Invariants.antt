use Rattle.std.proofs.Common.{◌≡◌, ◌++◌, [], length}
use Rattle.kmip_ttlv_names.specs.NameTables.{lines_of}
use Rattle.ttlv_run.specs.Pages.{rows, head}
use Rattle.ttlv_run.proofs.page.page_of.Given as goal

abbrev pub invariant-lines : goal.invariant-lines
invariant-lines g l = l.page.items ++ rows l.outer.items (lines_of l.rest) ≡ head ++ rows [] (lines_of l.text)

abbrev pub decreases-lines : goal.decreases-lines
decreases-lines g l = length l.rest
