use Rattle.std.proofs.Common.{◌≡◌, ◌∷◌, ℕ, List, ap, sym, subst, arith, ◌∙◌}
use Rattle.std.specs.Str.{IsUtf8}
use Rattle.std.proofs.lemmas.Str.{IsUtf8-from_ascii}
use Rattle.kmip_ttlv_util.proofs.HexDigits.{six_of, six_shown, tagged_ascii}
use Rattle.kmip_ttlv_util.proofs.lines.push_bare.Goals as goal

pub from_utf8_unchecked-requires : goal.from_utf8_unchecked-requires
from_utf8_unchecked-requires g c =
    subst IsUtf8 (sym (ap (λ (s : List ℕ). 84 ∷ 97 ∷ 103 ∷ 58 ∷ 32 ∷ 48 ∷ 120 ∷ s) (six_of c.eight-d.result c.args.n c.eight-d.ensures)))
    (IsUtf8-from_ascii _ (tagged_ascii c.args.n))

pub returns : goal.returns
returns g c =
    let six : c.shown.result ≡ 6 = omega arith in
    let text = c.from_utf8_unchecked.ensures ∙ ap (λ (s : List ℕ). 84 ∷ 97 ∷ 103 ∷ 58 ∷ 32 ∷ 48 ∷ 120 ∷ s)
    (six_shown c.args.least c.shown.result c.args.n c.eight-d.result c.eight-d.ensures six c.shown.ensures.digits) in
    record { ok = rw (← text) c.push_str.ensures.ok; err = rw (← text) c.push_str.ensures.err }
