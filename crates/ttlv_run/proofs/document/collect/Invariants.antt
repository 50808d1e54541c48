use Rattle.std.proofs.Common.{◌-◌, ◌≤◌, length}
use Rattle.ttlv_run.specs.Documents.{Collects}
use Rattle.ttlv_run.proofs.document.collect.Given as goal

abbrev pub invariant-lines : goal.invariant-lines
invariant-lines g l = record {
  within : l.at ≤ length l.text;
  collects : Collects l.text l.at l.document;
}

abbrev pub decreases-lines : goal.decreases-lines
decreases-lines g l = length l.text - l.at
