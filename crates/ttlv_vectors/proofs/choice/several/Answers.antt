use Rattle.kmip_ttlv_base.proofs.Shapes.{content_of-Tuple}
use Rattle.ttlv_vectors.proofs.choice.several.Goals as goal

pub returns : goal.returns
returns g c = content_of-Tuple c.args.shapes
