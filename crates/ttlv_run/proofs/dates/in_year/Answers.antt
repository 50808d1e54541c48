use Rattle.std.proofs.Common.{arith, ℕ, ◌+◌, ◌-◌, ◌∙◌, ap, sym}
use Rattle.ttlv_run.specs.Dates.{in_year}
use Rattle.ttlv_run.proofs.Calendar.{year_on, year_end, year_some}
use Rattle.ttlv_run.proofs.dates.in_year.Goals as goal

pub years-preserved : goal.years-preserved
years-preserved c =
    let l = c.years.invariant.left in
    let y = c.years.year in
    let on = year_on l.0 y c.years.rest (omega (arith, c.years-test.true)) l.1 in
    record {
      left = (
        on.fuel,
        omega (arith, on.few, c.days_in_year-rest.ensures),
        l.2 ∙ on.same ∙ ap (λ (k : ℕ). in_year on.fuel (y + 1) (c.years.rest - k)) (sym c.days_in_year-rest.ensures),
      );
      few = omega (arith, c.years.invariant.few);
      within = omega (arith, c.years.invariant.within, year_some y, c.years-test.true);
    }

pub returns-clause-is : goal.returns-clause-is
returns-clause-is c = sym (c.years.invariant.left.2 ∙ year_end c.years.invariant.left.0 c.years.year c.years.rest (omega (arith, c.years-test.false)))
