use Rattle.std.proofs.{Common.[], lemmas.Str.IsUtf8-from_ascii, lemmas.Str.Ascii.IsAscii-nil, lemmas.Str.Ascii.IsAscii-cons}
use Rattle.ttlv_run.proofs.escape.push_digit.Goals as goal

pub from_utf8_unchecked-requires : goal.from_utf8_unchecked-requires
from_utf8_unchecked-requires g c = IsUtf8-from_ascii _ (IsAscii-cons c.digit.result [] c.digit.ensures.ascii IsAscii-nil)
