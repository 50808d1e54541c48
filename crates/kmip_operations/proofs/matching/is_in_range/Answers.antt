use Rattle.std.proofs.Common.{true, false, refl, sym, ◌∙◌}
use Rattle.kmip_operations.proofs.Matched.{lies_in_range}
use Rattle.kmip_operations.proofs.matching.is_in_range.Goals as goal

pub returns-then-not-has_dates : goal.returns-then-not-has_dates
returns-then-not-has_dates g c =
    lies_in_range c.args.name.now c.args.date.0 c.args.sought.now false _ _ (sym c.if-not-has_dates.true ∙ c.has_dates.ensures) refl refl

pub returns-then-begins_by : goal.returns-then-begins_by
returns-then-begins_by g c =
    lies_in_range c.args.name.now c.args.date.0 c.args.sought.now true true c.ends_by.result (sym c.if-not-has_dates.false ∙ c.has_dates.ensures)
    (sym c.if-begins_by.true ∙ c.begins_by.ensures) c.ends_by.ensures

pub returns-else-begins_by : goal.returns-else-begins_by
returns-else-begins_by g c =
    c.if-begins_by.false
    ∙ lies_in_range c.args.name.now c.args.date.0 c.args.sought.now true false _ (sym c.if-not-has_dates.false ∙ c.has_dates.ensures)
    (sym c.if-begins_by.false ∙ c.begins_by.ensures) refl
