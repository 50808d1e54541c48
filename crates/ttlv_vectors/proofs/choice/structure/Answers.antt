use Rattle.std.proofs.Common.{false}
use Rattle.kmip_ttlv_base.proofs.Shapes.{form_of-Struct}
use Rattle.ttlv_vectors.proofs.choice.structure.Goals as goal

pub returns : goal.returns
returns g c = form_of-Struct c.args.name c.args.fields false
