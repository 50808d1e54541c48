use Rattle.std.proofs.Common.{◌≡◌, ◌+◌, ◌-◌, length, drop}
use Rattle.ttlv_run.specs.Pages.{spaces}
use Rattle.ttlv_run.proofs.page.spaces.Given as goal

abbrev pub invariant-spaces : goal.invariant-spaces
invariant-spaces l = spaces l.text ≡ l.count + spaces (drop l.count l.text)

abbrev pub decreases-spaces : goal.decreases-spaces
decreases-spaces l = length l.text - l.count
