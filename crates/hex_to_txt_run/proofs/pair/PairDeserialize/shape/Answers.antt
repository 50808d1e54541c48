use Rattle.std.proofs.Common.{◌∙◌, false, codes, refl}
use Rattle.kmip_ttlv_base.proofs.Shapes.{form_of-Struct}
use Rattle.hex_to_txt_run.proofs.pair.PairDeserialize.shape.Goals as goal

pub returns : goal.returns
returns g c = form_of-Struct (record { ref_ptr = (0, 0); now = codes "0xAAAAAA" }) c.push-2.new.self false
    ∙ (rw (c.in_ok-push-2.ensures.items, c.in_ok-push.ensures.items, c.new-fields.ensures.items) refl)
