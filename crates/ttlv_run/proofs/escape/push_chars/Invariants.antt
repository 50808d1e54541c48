use Rattle.std.proofs.Common.{flat_map}
use Rattle.ttlv_run.specs.Escapes.{escaped_char}
use Rattle.ttlv_run.proofs.escape.push_chars.Given as goal

abbrev pub invariant-loop-c : goal.invariant-loop-c
invariant-loop-c g l = g.S.PlainSink.adds l.fn.out (flat_map escaped_char l.yielded) l.out
