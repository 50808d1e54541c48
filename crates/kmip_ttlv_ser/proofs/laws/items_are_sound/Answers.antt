use Rattle.kmip_ttlv_ser.proofs.Sound.{items_sound}
use Rattle.kmip_ttlv_ser.proofs.laws.items_are_sound.Goals as goal

pub returns : goal.returns
returns c = items_sound
