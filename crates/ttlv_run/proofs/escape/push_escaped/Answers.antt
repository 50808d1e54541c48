use Rattle.std.proofs.lemmas.Str.{IsUtf8-from_is_utf8}
use Rattle.ttlv_run.proofs.escape.push_escaped.Goals as goal

pub from_utf8_unchecked-requires : goal.from_utf8_unchecked-requires
from_utf8_unchecked-requires g c = IsUtf8-from_is_utf8 c.args.text.now c.requires
