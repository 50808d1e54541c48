use Rattle.std.proofs.Common.{◌∙◌, false, codes, refl}
use Rattle.kmip_ttlv_base.proofs.Shapes.{form_of-Struct}
use Rattle.ttlv_vectors.proofs.samples.SingleDeserialize.shape.Goals as goal

pub returns : goal.returns
returns g c = form_of-Struct (record { ref_ptr = (0, 0); now = codes "0xAAAAAA" }) c.push.new.self false
    ∙ (rw (c.in_ok-push.ensures.items, c.new-fields.ensures.items) refl)
