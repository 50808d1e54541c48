use Rattle.std.proofs.Common.{◌≡◌, ◌++◌}
use Rattle.ttlv_run.specs.Pages.{closings}
use Rattle.ttlv_run.proofs.page.push_closings.Given as goal

abbrev pub invariant-loop : goal.invariant-loop
invariant-loop g l = l.page.items ≡ l.fn.page.items ++ closings l.counter
