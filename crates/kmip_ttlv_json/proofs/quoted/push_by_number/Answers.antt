use Rattle.std.proofs.Common.{[], ◌∷◌, refl}
use Rattle.std.proofs.lemmas.Bool.{lt-ltb}
use Rattle.json.proofs.Printed.Utf8.{IsUtf8-are_ascii}
use Rattle.kmip_ttlv_json.proofs.quoted.push_by_number.Goals as goal

pub from_utf8_unchecked-requires : goal.from_utf8_unchecked-requires
from_utf8_unchecked-requires g c = IsUtf8-are_ascii (92 ∷ 117 ∷ 48 ∷ 48 ∷ c.digit-high.result ∷ c.digit-low.result ∷ [])
    (rw (lt-ltb c.digit-high.result 128 c.digit-high.ensures.ascii, lt-ltb c.digit-low.result 128 c.digit-low.ensures.ascii) refl)
