use Rattle.kmip_ttlv_base.proofs.Shapes.{form_of-Enum}
use Rattle.ttlv_vectors.proofs.choice.enumeration.Goals as goal

pub returns : goal.returns
returns g c = form_of-Enum c.args.name c.args.variants
