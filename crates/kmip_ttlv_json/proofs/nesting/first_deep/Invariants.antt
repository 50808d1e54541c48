use Rattle.std.proofs.Common.{◌≡◌, ◌≤◌, length}
use Rattle.json.specs.Lex.{tokens}
use Rattle.kmip_ttlv_json.specs.Readings.{is_deep}
use Rattle.kmip_ttlv_json.proofs.nesting.first_deep.Given as goal

abbrev pub invariant-tokens : goal.invariant-tokens
invariant-tokens g l = (l.depth ≤ 127) × (is_deep 0 (tokens l.text) ≡ is_deep l.depth l.reader)

abbrev pub decreases-tokens : goal.decreases-tokens
decreases-tokens g l = length l.reader
