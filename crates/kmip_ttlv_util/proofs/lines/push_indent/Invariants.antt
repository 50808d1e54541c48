use Rattle.kmip_ttlv_util.specs.Lines.{indent}
use Rattle.kmip_ttlv_util.proofs.lines.push_indent.Given as goal

abbrev pub invariant-loop : goal.invariant-loop
invariant-loop g l = g.S.TextSink.adds l.fn.out (indent l.counter) l.out
