use Rattle.std.proofs.Common.{◌∙◌, refl}
use Rattle.kmip_ttlv_base.proofs.Shapes.{form_of-Struct}
use Rattle.sample_shapes.proofs.parts.StructureOfPart.shape.Goals as goal

pub returns : goal.returns
returns g c = form_of-Struct c.name.result c.in_ok-fields.fields _ ∙ (rw (c.name.ensures, c.in_ok-fields.ensures) refl)
