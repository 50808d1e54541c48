use Rattle.std.proofs.Common.{◌≡◌, ◌<◌, length, take, ap, ◌∙◌, arith, subst, Some, None}
use Rattle.std.specs.Str.Parse.{AllDigits, digits_value}
use Rattle.std.proofs.lemmas.List.{take_all}
use Rattle.kmip_ttlv_types.specs.Names.{numeral}
use Rattle.kmip_ttlv_types.proofs.Numerals.{is_numeral, other_byte, too_far, more_digits}
use Rattle.kmip_ttlv_ser.proofs.names.numeral.Goals.{then-digit-ge16-via-then-digit-ge16, then-digit-ge16-via-else-digit-ge16+then-value-ge268435456}
use Rattle.kmip_ttlv_ser.proofs.names.numeral.Goals as goal

pub returns-then-digit-ge16 : goal.returns-then-digit-ge16
returns-then-digit-ge16 c =
    let ds = c.args.digits.now in
    let at = c.loop-at.at in
    let i = c.loop-at.invariant in
    let lt : at < length ds = omega (arith, c.loop-at-test.true) in
    let value : None ≡ numeral ds = elim c.then-digit-ge16.branch [
      | then-digit-ge16-via-then-digit-ge16 w ↦
          other_byte ds at lt (c.value_of-digit.ensures.other (omega (arith, w.if-digit-ge16.true)))
      | then-digit-ge16-via-else-digit-ge16+then-value-ge268435456 w ↦ too_far ds at lt (omega (arith, i.1, w.if-value-ge268435456.true))
    ] in
    record { value = value; digits = tt }

pub loop-at-preserved : goal.loop-at-preserved
loop-at-preserved c =
    let ds = c.args.digits.now in
    let at = c.loop-at.at in
    let i = c.loop-at.invariant in
    let lt : at < length ds = omega (arith, c.loop-at-test.true) in
    let small : c.value_of-digit.result < 16 = omega (arith, c.if-digit-ge16.false) in
    let more = more_digits ds at c.loop-at.value c.value_of-digit.result lt small c.value_of-digit.ensures.digit i.1 i.2 in
    (omega (arith, lt), more.0, more.1)

pub returns-else-at-eq0 : goal.returns-else-at-eq0
returns-else-at-eq0 c =
    let ds = c.args.digits.now in
    let at = c.loop-at.at in
    let i = c.loop-at.invariant in
    let whole : take at ds ≡ ds = take_all at ds (omega (arith, c.loop-at-test.false)) in
    let all = subst (AllDigits 16) whole i.2 in
    let is = i.1 ∙ ap (digits_value 16) whole in
    record { value = ap Some is ∙ is_numeral ds (omega (arith, c.if-at-eq0.false, i.0), all) (omega (arith, is)); digits = all }
