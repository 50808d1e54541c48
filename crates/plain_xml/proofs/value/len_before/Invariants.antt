use Rattle.std.proofs.Common.{◌≡◌, ◌+◌, length}
use Rattle.std.specs.List.{prefix_len}
use Rattle.plain_xml.specs.Values.{is_other}
use Rattle.plain_xml.proofs.value.len_before.Given as goal

abbrev pub invariant-characters : goal.invariant-characters
invariant-characters l = record {
  within : l.len + length l.rest ≡ length l.text;
  is : l.len + prefix_len (is_other l.stop) l.rest ≡ prefix_len (is_other l.stop) l.text;
}

abbrev pub decreases-characters : goal.decreases-characters
decreases-characters l = length l.rest
