use Rattle.std.proofs.Common.{take}
use Rattle.kmip_ttlv_util.specs.Pretty.{hex_bytes}
use Rattle.kmip_ttlv_util.proofs.pretty.push_bytes.Given as goal

abbrev pub invariant-loop-byte : goal.invariant-loop-byte
invariant-loop-byte g l = g.S.TextSink.adds l.fn.out (hex_bytes (take l.byte-index l.content)) l.out
