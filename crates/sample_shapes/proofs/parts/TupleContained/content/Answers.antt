use Rattle.std.proofs.Common.{◌∙◌, refl}
use Rattle.kmip_ttlv_base.proofs.Shapes.{content_of-Tuple}
use Rattle.sample_shapes.proofs.parts.TupleContained.content.Goals as goal

pub returns : goal.returns
returns g c = content_of-Tuple c.in_ok-shapes.shapes ∙ (rw (c.in_ok-shapes.ensures) refl)
