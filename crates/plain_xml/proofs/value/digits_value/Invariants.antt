use Rattle.std.proofs.Common.{◌≡◌, ◌≤◌, length}
use Rattle.plain_xml.specs.Values.{digits_value}
use Rattle.plain_xml.proofs.value.digits_value.Given as goal

abbrev pub invariant-digits : goal.invariant-digits
invariant-digits l = record {
  small : l.number ≤ 0x10_FFFF;
  is : digits_value l.radix 0 l.digits ≡ digits_value l.radix l.number l.rest;
}

abbrev pub decreases-digits : goal.decreases-digits
decreases-digits l = length l.rest
