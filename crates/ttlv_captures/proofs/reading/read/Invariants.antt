use Rattle.std.proofs.Common.{◌≡◌, ◌≤◌, ◌+◌, ◌++◌, drop, length}
use Rattle.ttlv_captures.specs.Notations.{tokens, bytes_of, widths}
use Rattle.ttlv_captures.proofs.reading.read.Given as goal

abbrev pub invariant-tokens : goal.invariant-tokens
invariant-tokens g l = record {
  within : l.taken ≤ length l.text;
  onward : length l.bytes.items ≤ l.taken;
  bytes : bytes_of (tokens l.notation l.count l.text) ≡ l.bytes.items ++ bytes_of (tokens l.notation l.left (drop l.taken l.text));
  widths : widths (tokens l.notation l.count l.text) ≡ l.taken + widths (tokens l.notation l.left (drop l.taken l.text));
}

abbrev pub decreases-tokens : goal.decreases-tokens
decreases-tokens g l = l.left
