use Rattle.std.proofs.Common.{◌≡◌, length}
use denote.Text.{Utf8}
use denote.Shadow.{shadow}
use Rattle.kmip_ttlv_names.specs.ValueNames.{name_of_value}
use Rattle.kmip_ttlv_names.proofs.values.value_name.Given as goal

abbrev pub invariant-entries : goal.invariant-entries
invariant-entries l = shadow (Utf8 l.rest) × (name_of_value l.value l.list ≡ name_of_value l.value l.rest)

abbrev pub decreases-entries : goal.decreases-entries
decreases-entries l = length l.rest
