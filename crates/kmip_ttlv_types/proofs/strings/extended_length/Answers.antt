use Rattle.std.proofs.Common.{arith}
use Rattle.kmip_ttlv_types.proofs.Padding.{length-sign_extended}
use Rattle.kmip_ttlv_types.proofs.strings.extended_length.Goals as goal

pub returns : goal.returns
returns c = omega (arith, length-sign_extended c.args.bytes.now, c.sign_count.ensures.count)
