use Rattle.std.proofs.Common.{[], ◌∷◌, refl}
use Rattle.std.proofs.lemmas.Bool.{lt-ltb}
use Rattle.json.proofs.Printed.Utf8.{IsUtf8-are_ascii}
use Rattle.kmip_ttlv_json.proofs.quoted.push_byte.Goals as goal

pub from_utf8_unchecked-requires : goal.from_utf8_unchecked-requires
from_utf8_unchecked-requires g c = IsUtf8-are_ascii (c.args.c ∷ []) (rw (lt-ltb c.args.c 128 c.requires) refl)
