use Rattle.std.proofs.Common.{arith}
use Rattle.kmip_ttlv_util.proofs.HexDigits.{pairs_eight}
use Rattle.kmip_ttlv_util.proofs.digits.eight.Goals as goal

pub returns : goal.returns
returns c = pairs_eight c.args.n (omega arith)
