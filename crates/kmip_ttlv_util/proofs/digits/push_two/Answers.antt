use Rattle.std.proofs.Common.{arith, sym, subst}
use Rattle.std.specs.Str.{IsUtf8}
use Rattle.std.proofs.lemmas.Str.{IsUtf8-from_ascii}
use Rattle.kmip_ttlv_util.proofs.HexDigits.{two_ascii}
use Rattle.kmip_ttlv_util.proofs.digits.push_two.Goals as goal

pub from_utf8_unchecked-requires : goal.from_utf8_unchecked-requires
from_utf8_unchecked-requires g c = subst IsUtf8 (sym c.two-digits.ensures) (IsUtf8-from_ascii _ (two_ascii c.args.byte (omega arith)))
