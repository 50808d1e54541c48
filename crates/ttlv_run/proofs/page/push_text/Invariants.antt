use Rattle.std.proofs.Common.{◌≡◌, ◌++◌, take}
use Rattle.ttlv_run.specs.Pages.{page_text}
use Rattle.ttlv_run.proofs.page.push_text.Given as goal

abbrev pub invariant-loop-b : goal.invariant-loop-b
invariant-loop-b g l = l.page.items ≡ l.fn.page.items ++ page_text (take l.b-index l.text)
