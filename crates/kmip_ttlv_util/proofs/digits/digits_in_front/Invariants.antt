use Rattle.std.proofs.Common.{◌≡◌, ◌+◌, ◌-◌, ◌<◌, ◌≤◌, ◌^◌, length, take, drop}
use Rattle.std.specs.List.{prefix_len}
use Rattle.kmip_ttlv_util.specs.{Letters.is_hex, LastDigits.last_digits}
use Rattle.kmip_ttlv_util.proofs.digits.digits_in_front.Given as goal

abbrev pub invariant-loop-n : goal.invariant-loop-n
invariant-loop-n l = (l.n ≤ length l.s) × (prefix_len is_hex l.s ≡ l.n + prefix_len is_hex (drop l.n l.s)) × (l.n ≤ 8 → take l.n l.s ≡ last_digits l.n l.number)
    × (l.n ≤ 8 → l.number < 16 ^ l.n)

abbrev pub decreases-loop-n : goal.decreases-loop-n
decreases-loop-n l = length l.s - l.n
