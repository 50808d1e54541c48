use Rattle.std.proofs.Common.{flat_map}
use Rattle.kmip_ttlv_json.specs.Spellings.{char_text}
use Rattle.kmip_ttlv_json.proofs.quoted.push_escaped.Given as goal

abbrev pub invariant-loop-c : goal.invariant-loop-c
invariant-loop-c g l = g.S.TextSink.adds l.fn.out (flat_map char_text l.yielded) l.out
