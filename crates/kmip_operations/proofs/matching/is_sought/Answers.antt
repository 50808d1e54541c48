use Rattle.std.proofs.Common.{true, false, refl, sym, ◌∙◌}
use Rattle.kmip_operations.proofs.Matched.{is_as_sought}
use Rattle.kmip_operations.proofs.matching.is_sought.Goals as goal

pub returns-then-has_all : goal.returns-then-has_all
returns-then-has_all g c =
    is_as_sought c.args.sought.now c.args.owned.now true c.are_timely.result (sym c.if-has_all.true ∙ c.has_all.ensures) c.are_timely.ensures

pub returns-else-has_all : goal.returns-else-has_all
returns-else-has_all g c =
    c.if-has_all.false ∙ is_as_sought c.args.sought.now c.args.owned.now false _ (sym c.if-has_all.false ∙ c.has_all.ensures) refl
