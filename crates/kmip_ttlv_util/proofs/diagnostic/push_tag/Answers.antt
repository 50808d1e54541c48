use Rattle.std.proofs.Common.{arith, ◌≡◌, ◌-◌, ◌+◌, ℕ, ap, sym, subst, ◌∙◌}
use Rattle.std.specs.Str.{IsUtf8}
use Rattle.std.proofs.lemmas.Str.{IsUtf8-from_ascii}
use Rattle.kmip_ttlv_util.specs.{LastDigits.last_digits, Outlines.stripped}
use Rattle.kmip_ttlv_util.proofs.{HexDigits.last_ascii, HexDigits.end_of, PrefixNumbers.six_last, PrefixNumbers.behind}
use Rattle.kmip_ttlv_util.proofs.diagnostic.push_tag.Goals as goal

pub from_utf8_unchecked-text-requires : goal.from_utf8_unchecked-text-requires
from_utf8_unchecked-text-requires g c = subst IsUtf8 (sym (end_of 2 6 c.deref.result.now c.eight-digits.result (omega arith) c.eight-digits.ensures))
    (IsUtf8-from_ascii _ (last_ascii 6 c.deref.result.now))

pub returns-then-prefix-gt6 : goal.returns-then-prefix-gt6
returns-then-prefix-gt6 g c =
    let six = c.from_utf8_unchecked-text.ensures ∙ end_of 2 6 c.deref.result.now c.eight-digits.result (omega arith) c.eight-digits.ensures
    ∙ ap (last_digits 6) c.deref.ensures ∙ sym (six_last c.args.tag) in
    let text = c.strip.ensures ∙ ap (stripped c.args.prefix.now.text.now) six in
    record { ok = rw (← text) c.push_str.ensures.ok; err = rw (← text) c.push_str.ensures.err }

pub from_utf8_unchecked-requires : goal.from_utf8_unchecked-requires
from_utf8_unchecked-requires g c =
    let r = c.left_out-from.result in
    subst IsUtf8 (sym (end_of (r + 2) (8 - (r + 2)) c.deref.result.now c.eight-digits.result (omega (arith, c.left_out-from.ensures.bounded))
    c.eight-digits.ensures)) (IsUtf8-from_ascii _ (last_ascii (8 - (r + 2)) c.deref.result.now))

pub returns : goal.returns
returns g c =
    let r = c.left_out-from.result in
    let few : 8 - (r + 2) ≡ 6 - r = omega (arith, c.left_out-from.ensures.bounded) in
    let text = c.from_utf8_unchecked.ensures ∙ end_of (r + 2) (8 - (r + 2)) c.deref.result.now c.eight-digits.result
    (omega (arith, c.left_out-from.ensures.bounded)) c.eight-digits.ensures
    ∙ ap (λ (k : ℕ). last_digits k c.deref.result.now) few ∙ behind r c.args.tag c.deref.result.now _ c.left_out-from.ensures.bounded c.deref.ensures
    c.left_out-from.ensures.stripped in
    record { ok = rw (← text) c.push_str-2.ensures.ok; err = rw (← text) c.push_str-2.ensures.err }
