use Rattle.std.proofs.Common.{◌∙◌, refl}
use Rattle.kmip_ttlv_base.proofs.Shapes.{form_of-Enum}
use Rattle.sample_shapes.proofs.parts.ChoicePart.shape.Goals as goal

pub returns : goal.returns
returns g c = form_of-Enum c.name.result c.in_ok-variants.variants ∙ (rw (c.name.ensures, c.in_ok-variants.ensures) refl)
