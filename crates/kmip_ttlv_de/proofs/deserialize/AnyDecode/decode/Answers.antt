use Rattle.std.proofs.Common.{arith}
use Rattle.kmip_ttlv_base.specs.Values.{view}
use Rattle.kmip_ttlv_reader.proofs.{Founding.found_root, Giving.begins_gives}
use Rattle.kmip_ttlv_de.proofs.deserialize.AnyDecode.decode.Goals as goal

pub from_data-requires : goal.from_data-requires
from_data-requires g c =
    let form = g.T.Deserialize.form in
    let bytes = c.args.bytes.now in
    begins_gives form bytes (view c.in_ok-data.data) (found_root form bytes (view c.in_ok-data.data) (λ i. omega (arith, c.type_inv.bytes i))
    (rw c.in_ok-shape.ensures at c.in_ok-data.ensures))
