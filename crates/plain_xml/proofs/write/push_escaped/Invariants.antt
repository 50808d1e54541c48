use Rattle.std.proofs.Common.{◌≡◌, ◌++◌}
use Rattle.std.specs.Prelude.{string_bytes, encode_utf8_all}
use Rattle.plain_xml.specs.Writings.{escaped}
use Rattle.plain_xml.proofs.write.push_escaped.Given as goal

abbrev pub invariant-loop-c : goal.invariant-loop-c
invariant-loop-c g l = string_bytes l.out ≡ string_bytes l.fn.out ++ encode_utf8_all (escaped l.yielded)
