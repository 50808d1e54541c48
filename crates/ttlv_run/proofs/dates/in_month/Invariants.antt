use Rattle.std.proofs.Common.{◌≡◌, ◌+◌, ◌≤◌, ℕ}
use Rattle.ttlv_run.specs.Dates.{in_month}
use Rattle.ttlv_run.proofs.dates.in_month.Given as goal

abbrev pub invariant-months : goal.invariant-months
invariant-months l = record {
  left : (n : ℕ) × (l.rest ≤ n) × (in_month l.year l.days 1 l.days ≡ in_month l.year n l.month l.rest);
  few : l.rest ≤ l.days;
  within : l.month + l.rest ≤ 1 + l.days;
}

abbrev pub decreases-months : goal.decreases-months
decreases-months l = l.rest
