use Rattle.std.proofs.Common.{◌≡◌, ◌-◌, ◌≤◌, drop, length}
use Rattle.ttlv_captures.specs.Captures.{NoneBetween, costs}
use Rattle.ttlv_captures.proofs.reach.next_offset.Given as goal

abbrev pub invariant-offsets : goal.invariant-offsets
invariant-offsets g l = record {
  onward : l.from ≤ l.offset;
  within : l.offset ≤ length l.text;
  none : NoneBetween l.text l.from l.offset;
  spent : l.left ≡ l.rest - costs (drop l.from l.text) (l.offset - l.from);
}

abbrev pub decreases-offsets : goal.decreases-offsets
decreases-offsets g l = length l.text - l.offset
