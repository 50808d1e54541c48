use Rattle.std.proofs.Common.{ap, sym, ◌∙◌}
use Rattle.std.proofs.lemmas.Str.{IsUtf8-from_is_utf8}
use Rattle.kmip_ttlv_types.specs.{declared.typ.TtlvType.TtlvType, Leaves.is_valid}
use Rattle.kmip_ttlv_util.proofs.pretty.push_value.Goals as goal

pub from_utf8_unchecked-requires : goal.from_utf8_unchecked-requires
from_utf8_unchecked-requires g c = IsUtf8-from_is_utf8 c.args.content.now (ap (λ (t : TtlvType). is_valid t c.args.content.now) (sym c.in-TextString.is)
    ∙ c.requires)
