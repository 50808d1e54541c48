use Rattle.std.proofs.{Common.[], Common.◌∷◌, lemmas.Str.IsUtf8-from_ascii, lemmas.Str.Ascii.IsAscii-nil, lemmas.Str.Ascii.IsAscii-cons}
use Rattle.ttlv_run.proofs.escape.push_byte_hex.Goals as goal

pub from_utf8_unchecked-requires : goal.from_utf8_unchecked-requires
from_utf8_unchecked-requires g c =
    let last = IsAscii-cons c.digit-2.result [] c.digit-2.ensures.ascii IsAscii-nil in
    IsUtf8-from_ascii _ (IsAscii-cons c.digit.result (c.digit-2.result ∷ []) c.digit.ensures.ascii last)
