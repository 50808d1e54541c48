use Rattle.std.proofs.Common.{◌≡◌, ◌≤◌, ◌-◌, drop, get_or, Option, ℕ, List, [], ◌++◌, ◌∷◌, ◌∙◌, ap, sym, subst, arith, append_assoc}
use Rattle.std.specs.Str.{IsUtf8}
use Rattle.std.proofs.lemmas.Str.{IsUtf8-from_ascii, IsAscii-append, Ascii.IsAscii-nil, Ascii.IsAscii-cons}
use Rattle.kmip_ttlv_types.specs.{declared.typ.TtlvType.TtlvType, Digits.six_digits}
use Rattle.kmip_ttlv_util.specs.{LastDigits.last_digits, Letters.letter}
use Rattle.kmip_ttlv_util.specs.Outlines.{mark, value_text, stripped}
use Rattle.kmip_ttlv_util.proofs.Saying.{breaks_same, err_now, does_then, does_same, err_front, begins_equal}
use Rattle.kmip_ttlv_util.proofs.{HexDigits.two_of, HexDigits.last_ascii, PrefixNumbers.behind}
use Rattle.kmip_ttlv_util.proofs.diagnostic.push_mark.Goals as goal

pub from_utf8_unchecked-requires : goal.from_utf8_unchecked-requires
from_utf8_unchecked-requires g c =
    let digits = ap (λ (s : List ℕ). s ++ (c.letter.result ∷ [])) (two_of c.eight-digits.result c.deref.result.now c.eight-digits.ensures) in
    subst IsUtf8 (sym digits) (IsUtf8-from_ascii _ (IsAscii-append (last_digits 2 c.deref.result.now) (c.letter.result ∷ []) (last_ascii 2 c.deref.result.now)
    (IsAscii-cons c.letter.result [] c.letter.ensures.ascii IsAscii-nil)))

-- the last two digits and a letter begin the mark of a tag whose other digits are omitted
marked : (prefix : List ℕ) (r tag n : ℕ) (eight s : List ℕ) (l : ℕ) (typ : TtlvType) (v : Option ℕ) → 2 ≡ 6 - r → r ≤ 6 → n ≡ tag
    → drop r (six_digits tag) ≡ stripped prefix (six_digits tag) → eight ≡ last_digits 8 n → l ≡ letter typ
    → s ≡ get_or eight 6 0 ∷ get_or eight 7 0 ∷ l ∷ [] → s ++ value_text v ≡ mark prefix tag typ v
unfolding mark
marked prefix r tag n eight s l typ v two few same left is letter-is all =
    let text = all ∙ ap (λ (s : List ℕ). s ++ (l ∷ [])) (two_of eight n is ∙ (ap (λ (k : ℕ). last_digits k n) two ∙ behind r tag n _ few same left)) in
    rw (text, letter-is) (append_assoc (stripped prefix (six_digits tag)) (letter typ ∷ []) (value_text v))

pub returns-in_err-push_str-clause-err : goal.returns-in_err-push_str-clause-err
returns-in_err-push_str-clause-err g c =
    let whole = marked c.args.prefix.now.text.now c.left_out.result c.args.tag c.deref.result.now c.eight-digits.result _ c.letter.result c.args.typ
    c.args.value (omega arith) c.left_out.ensures.bounded c.deref.ensures c.left_out.ensures.stripped c.eight-digits.ensures c.letter.ensures.letter
    c.from_utf8_unchecked.ensures in
    err_front g.met.S.TextSink.breaks_first _ (g.met.S.TextSink.breaks_first _ _ _ (value_text c.args.value) c.in_err-push_str.ensures.err) (begins_equal whole)

pub returns-then-left_out-eq4 : goal.returns-then-left_out-eq4
returns-then-left_out-eq4 g c =
    let whole = marked c.args.prefix.now.text.now c.left_out.result c.args.tag c.deref.result.now c.eight-digits.result _ c.letter.result c.args.typ
    c.args.value (omega arith) c.left_out.ensures.bounded c.deref.ensures c.left_out.ensures.stripped c.eight-digits.ensures c.letter.ensures.letter
    c.from_utf8_unchecked.ensures in
    let d = does_then g.met.S.TextSink.adds_both g.met.S.TextSink.breaks_second c.push_value.result (value_text c.args.value) c.in_ok-push_str.ensures.ok
    record { ok = c.push_value.ensures.ok; err = c.push_value.ensures.err } in
    record { ok = rw (← whole) d.ok; err = rw (← whole) d.err }

pub from_utf8_unchecked-requires-2 : goal.from_utf8_unchecked-requires-2
from_utf8_unchecked-requires-2 g c = IsUtf8-from_ascii _ (IsAscii-cons c.letter-2.result [] c.letter-2.ensures.ascii IsAscii-nil)

pub returns-in_err-push_tag-clause-err : goal.returns-in_err-push_tag-clause-err
unfolding mark
returns-in_err-push_tag-clause-err g c =
    err_now g.S.TextSink.adds g.S.TextSink.breaks _ _ _ _ (g.met.S.TextSink.breaks_first _ _ _ (letter c.args.typ ∷ value_text c.args.value)
    c.in_err-push_tag.ensures.err)

pub returns-in_err-push_str-2-clause-err : goal.returns-in_err-push_str-2-clause-err
unfolding mark
returns-in_err-push_str-2-clause-err g c =
    let text = c.from_utf8_unchecked-2.ensures ∙ ap (λ (l : ℕ). l ∷ []) c.letter-2.ensures.letter in
    let one = breaks_same g.S.TextSink.adds g.S.TextSink.breaks _ _ _ _ c.in_err-push_str-2.ensures.err text in
    err_now g.S.TextSink.adds g.S.TextSink.breaks _ _ _ _ (g.met.S.TextSink.breaks_second _ _ _ _ (letter c.args.typ ∷ value_text c.args.value)
    c.in_ok-push_tag.ensures.ok (g.met.S.TextSink.breaks_first _ _ _ (value_text c.args.value) one))

pub returns : goal.returns
unfolding mark
returns g c =
    let whole = ap (λ (s : List ℕ). s ++ value_text c.args.value) (c.from_utf8_unchecked-2.ensures ∙ ap (λ (l : ℕ). l ∷ []) c.letter-2.ensures.letter) in
    let d = does_then g.met.S.TextSink.adds_both g.met.S.TextSink.breaks_second c.push_value-2.result
    (letter c.args.typ ∷ value_text c.args.value) c.in_ok-push_tag.ensures.ok
    (does_same (does_then g.met.S.TextSink.adds_both g.met.S.TextSink.breaks_second _ (value_text c.args.value) c.in_ok-push_str-2.ensures.ok
    record { ok = c.push_value-2.ensures.ok; err = c.push_value-2.ensures.err }) whole) in
    record { ok = d.ok; err = d.err }
