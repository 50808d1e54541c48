-- Prefixes of tags as numbers.
use Rattle.std.specs.Prelude.{◌≡◌, ◌+◌, ◌*◌, ◌≤◌, ◌<◌, ◌^◌}
use Rattle.kmip_ttlv_util.specs.LastDigits.{last_digits}
use Rattle.kmip_ttlv_util.specs.declared.diagnostic.Prefix.{Prefix}

-- if a prefix is at most six digits, `number` is their number, and `shift` the number of bits in a tag's other
-- digits
abbrev pub IsNumber : Prefix → Type 0
IsNumber p =
    p.count ≤ 6
    → (p.text.now ≡ last_digits p.count p.number) × (p.number < 16 ^ p.count) × (p.shift + 4 * p.count ≡ 24)
