use Rattle.std.proofs.Common.{arith, ℕ, ◌+◌, ◌-◌, ◌∙◌, ap, sym}
use Rattle.ttlv_run.specs.Dates.{in_month}
use Rattle.ttlv_run.proofs.Calendar.{month_on, month_end, month_some}
use Rattle.ttlv_run.proofs.dates.in_month.Goals as goal

pub months-preserved : goal.months-preserved
months-preserved c =
    let l = c.months.invariant.left in
    let y = c.months.month in
    let on = month_on c.args.year l.0 y c.months.rest (omega (arith, c.months-test.true)) l.1 in
    record {
      left = (
        on.fuel,
        omega (arith, on.few, c.days_in_month-rest.ensures),
        l.2 ∙ on.same
            ∙ ap (λ (k : ℕ). in_month c.args.year on.fuel (y + 1) (c.months.rest - k)) (sym c.days_in_month-rest.ensures),
      );
      few = omega (arith, c.months.invariant.few);
      within = omega (arith, c.months.invariant.within, month_some c.args.year y, c.months-test.true);
    }

pub returns-clause-is : goal.returns-clause-is
returns-clause-is c = sym (c.months.invariant.left.2 ∙ month_end c.args.year c.months.invariant.left.0 c.months.month c.months.rest
    (omega (arith, c.months-test.false)))
