use Rattle.std.proofs.Common.{Some, ap}
use Rattle.kmip_operations.proofs.showing.block.Goals as goal

pub returns : goal.returns
returns g c = ap Some (c.in_ok-to_vec.ensures.items_if_clones_equal (λ x y e. e))
