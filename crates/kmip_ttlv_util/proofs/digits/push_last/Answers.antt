use Rattle.std.proofs.Common.{◌≡◌, ◌-◌, ℕ, ap, sym, subst, arith, ◌∙◌}
use Rattle.std.specs.Str.{IsUtf8}
use Rattle.std.proofs.lemmas.Str.{IsUtf8-from_ascii}
use Rattle.kmip_ttlv_util.specs.LastDigits.{last_digits}
use Rattle.kmip_ttlv_util.proofs.HexDigits.{last_ascii, end_of}
use Rattle.kmip_ttlv_util.proofs.digits.push_last.Goals as goal

pub from_utf8_unchecked-requires : goal.from_utf8_unchecked-requires
from_utf8_unchecked-requires g c = subst IsUtf8 (sym (end_of 2 6 c.args.n c.eight-digits.result (omega arith) c.eight-digits.ensures))
    (IsUtf8-from_ascii _ (last_ascii 6 c.args.n))

pub returns-then-count-eq6 : goal.returns-then-count-eq6
returns-then-count-eq6 g c =
    let text = c.from_utf8_unchecked.ensures ∙ end_of 2 6 c.args.n c.eight-digits.result (omega arith) c.eight-digits.ensures
    ∙ ap (λ (k : ℕ). last_digits k c.args.n) (sym c.if-count-eq6.true) in
    record { ok = rw (← text) c.push_str.ensures.ok; err = rw (← text) c.push_str.ensures.err }

pub from_utf8_unchecked-requires-2 : goal.from_utf8_unchecked-requires-2
from_utf8_unchecked-requires-2 g c =
    let text = end_of (8 - c.args.count) (8 - (8 - c.args.count)) c.args.n c.eight-digits.result (omega (arith, c.requires)) c.eight-digits.ensures in
    subst IsUtf8 (sym text) (IsUtf8-from_ascii _ (last_ascii (8 - (8 - c.args.count)) c.args.n))

pub returns : goal.returns
returns g c =
    let same : 8 - (8 - c.args.count) ≡ c.args.count = omega (arith, c.requires) in
    let text = c.from_utf8_unchecked-2.ensures ∙ end_of (8 - c.args.count) (8 - (8 - c.args.count)) c.args.n c.eight-digits.result (omega (arith, c.requires))
    c.eight-digits.ensures ∙ ap (λ (k : ℕ). last_digits k c.args.n) same in
    record { ok = rw (← text) c.push_str-2.ensures.ok; err = rw (← text) c.push_str-2.ensures.err }
