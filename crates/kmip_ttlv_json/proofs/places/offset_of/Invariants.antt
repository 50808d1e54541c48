use Rattle.std.proofs.Common.{◌≡◌, ◌+◌, length}
use Rattle.kmip_ttlv_json.specs.Places.{distance, offset_of}
use Rattle.kmip_ttlv_json.proofs.places.offset_of.Given as goal

abbrev pub invariant-bytes : goal.invariant-bytes
invariant-bytes l = record {
  within : l.at + length l.rest ≡ length l.text;
  offset : offset_of l.index l.text ≡ l.at + distance l.scan l.rest;
}

abbrev pub decreases-bytes : goal.decreases-bytes
decreases-bytes l = length l.rest
