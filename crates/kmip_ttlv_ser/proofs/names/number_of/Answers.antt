use Rattle.std.proofs.Common.{◌≡◌, ◌-◌, Some, length, take, drop, ◌∙◌, subst, arith, ap}
use Rattle.std.specs.Str.Parse.{AllDigits}
use Rattle.std.proofs.lemmas.List.{take_all, length-drop}
use Rattle.kmip_ttlv_types.specs.Names.{number, numeral}
use Rattle.kmip_ttlv_ser.proofs.{Prefixes.digits_number, Prefixes.prefixed_number, names.number_of.Goals.then-begins, names.number_of.Goals.else-begins}
use Rattle.kmip_ttlv_ser.proofs.names.number_of.Goals as goal

pub returns-in-Some : goal.returns-in-Some
returns-in-Some c =
    let bytes = c.as_bytes-bytes.result.now in
    let found = Some c.in-Some.n in
    let digits = c.if-begins.digits.now in
    let value : found ≡ numeral digits = c.in-Some.ensures.value in
    let all : AllDigits 16 digits = c.in-Some.ensures.digits in
    let ds = take (length bytes - 2) (drop 2 bytes) in
    let rest : ds ≡ drop 2 bytes = take_all (length bytes - 2) (drop 2 bytes) (omega (arith, length-drop 2 bytes)) in
    let is : found ≡ number bytes =
    elim c.if-begins.branch [
      | then-begins w ↦ (let part : digits ≡ ds = ap (λ r. r.now) w.digits-is in
          prefixed_number bytes ds found w.if-begins.ensures rest (subst (AllDigits 16) part all) (value ∙ ap numeral part))
      | else-begins w ↦
          (let part : digits ≡ bytes = ap (λ r. r.now) w.digits-is in digits_number bytes found (subst (AllDigits 16) part all) (value ∙ ap numeral part))
    ] in
    subst (λ s. found ≡ number s) c.as_bytes-bytes.ensures.value is
