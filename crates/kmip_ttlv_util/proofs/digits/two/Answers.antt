use Rattle.std.proofs.Common.{arith}
use Rattle.kmip_ttlv_util.proofs.HexDigits.{pairs_two}
use Rattle.kmip_ttlv_util.proofs.digits.two.Goals as goal

pub returns : goal.returns
returns c = pairs_two c.args.byte (omega arith)
