use Rattle.std.proofs.Common.{◌≡◌, ◌≤◌, ℕ, length}
use denote.Text.{Utf8}
use denote.Shadow.{shadow}
use Rattle.kmip_ttlv_names.specs.ValueNames.{name_of_value}
use Rattle.ttlv_run.proofs.masks.next_name.Given as goal

abbrev pub invariant-entries : goal.invariant-entries
invariant-entries l = shadow (Utf8 l.rest) × ((other : ℕ) → l.value ≤ other → name_of_value other l.list ≡ name_of_value other l.rest)

abbrev pub decreases-entries : goal.decreases-entries
decreases-entries l = length l.rest
