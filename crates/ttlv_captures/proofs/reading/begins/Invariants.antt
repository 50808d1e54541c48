use Rattle.std.proofs.Common.{◌≡◌, ◌≤◌, drop, length}
use Rattle.ttlv_captures.specs.Notations.{begins}
use Rattle.ttlv_captures.proofs.reading.begins.Given as goal

abbrev pub invariant-loop-byte : goal.invariant-loop-byte
invariant-loop-byte l = (l.at ≤ length l.text) × (begins l.notation l.text l.bytes ≡ begins l.notation (drop l.at l.text) (drop l.byte-index l.bytes))
