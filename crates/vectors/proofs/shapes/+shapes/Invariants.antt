use Rattle.std.proofs.Common.{◌+◌, ◌*◌}
use Rattle.vectors.proofs.shapes.+shapes.Given as goal

abbrev pub decreases-shape_of : goal.decreases-shape_of
decreases-shape_of l = 5 * l.depth

abbrev pub decreases-boxed : goal.decreases-boxed
decreases-boxed l = 5 * l.depth + 1

abbrev pub decreases-shapes_of : goal.decreases-shapes_of
decreases-shapes_of l = 5 * l.depth + 1

abbrev pub decreases-fields_of : goal.decreases-fields_of
decreases-fields_of l = 5 * l.depth + 1

abbrev pub decreases-content_of : goal.decreases-content_of
decreases-content_of l = 5 * l.depth + 2

abbrev pub decreases-variants_of : goal.decreases-variants_of
decreases-variants_of l = 5 * l.depth + 3

abbrev pub decreases-named_of : goal.decreases-named_of
decreases-named_of l = 5 * l.depth + 4
