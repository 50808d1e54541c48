use Rattle.std.proofs.Common.{length, ◌-◌, ◌≡◌, ◌≤◌, take}
use Rattle.std.specs.Str.Parse.{AllDigits, digits_value}
use Rattle.kmip_ttlv_ser.proofs.names.numeral.Given as goal

abbrev pub invariant-loop-at : goal.invariant-loop-at
invariant-loop-at l =
    (l.at ≤ length l.digits) × (l.value ≡ digits_value 16 (take l.at l.digits)) × AllDigits 16 (take l.at l.digits)

abbrev pub decreases-loop-at : goal.decreases-loop-at
decreases-loop-at l = length l.digits - l.at
