use Rattle.std.proofs.Common.{◌≡◌, ◌+◌, length}
use Rattle.std.specs.List.{prefix_len}
use Rattle.plain_xml.specs.Characters.{is_name_part}
use Rattle.plain_xml.proofs.words.name_len.Given as goal

abbrev pub invariant-characters : goal.invariant-characters
invariant-characters l = record {
  within : l.len + length l.rest ≡ length l.text;
  is : l.len + prefix_len is_name_part l.rest ≡ prefix_len is_name_part l.text;
}

abbrev pub decreases-characters : goal.decreases-characters
decreases-characters l = length l.rest
