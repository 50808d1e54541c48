use Rattle.std.proofs.Common.{◌≡◌, ◌+◌, ◌≤◌, ℕ}
use Rattle.ttlv_run.specs.Dates.{in_year}
use Rattle.ttlv_run.proofs.dates.in_year.Given as goal

abbrev pub invariant-years : goal.invariant-years
invariant-years l = record {
  left : (n : ℕ) × (l.rest ≤ n) × (in_year l.days l.first l.days ≡ in_year n l.year l.rest);
  few : l.rest ≤ l.days;
  within : l.year + l.rest ≤ l.first + l.days;
}

abbrev pub decreases-years : goal.decreases-years
decreases-years l = l.rest
