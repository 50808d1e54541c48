use Rattle.std.proofs.Common.{◌≡◌, ◌+◌, length}
use Rattle.std.specs.Prelude.{encode_utf8_all}
use Rattle.plain_xml.proofs.reading.byte_len.Given as goal

abbrev pub invariant-characters : goal.invariant-characters
invariant-characters l = l.len + length (encode_utf8_all l.rest) ≡ length (encode_utf8_all l.characters)

abbrev pub decreases-characters : goal.decreases-characters
decreases-characters l = length l.rest
