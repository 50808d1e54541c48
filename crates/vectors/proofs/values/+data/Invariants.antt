use Rattle.std.proofs.Common.{◌+◌, ◌*◌}
use Rattle.vectors.proofs.values.+data.Given as goal

abbrev pub decreases-data_of : goal.decreases-data_of
decreases-data_of l = 3 * l.depth

abbrev pub decreases-boxed : goal.decreases-boxed
decreases-boxed l = 3 * l.depth + 1

abbrev pub decreases-all_of : goal.decreases-all_of
decreases-all_of l = 3 * l.depth + 1

abbrev pub decreases-variant_of : goal.decreases-variant_of
decreases-variant_of l = 3 * l.depth + 2

abbrev pub decreases-named_of : goal.decreases-named_of
decreases-named_of l = 3 * l.depth + 2

abbrev pub decreases-numbered_of : goal.decreases-numbered_of
decreases-numbered_of l = 3 * l.depth + 2
