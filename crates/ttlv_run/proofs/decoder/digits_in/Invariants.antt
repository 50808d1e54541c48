use Rattle.std.proofs.Common.{◌≡◌, ◌≤◌, ◌-◌, true, take}
use Rattle.std.specs.List.{list_all}
use Rattle.ttlv_run.specs.Columns.{is_plain}
use Rattle.ttlv_run.proofs.decoder.digits_in.Given as goal

abbrev pub invariant-digits : goal.invariant-digits
invariant-digits l = (l.count ≤ l.most) × (list_all (is_plain l.form) (take l.count l.chars) ≡ true)

abbrev pub decreases-digits : goal.decreases-digits
decreases-digits l = l.most - l.count
