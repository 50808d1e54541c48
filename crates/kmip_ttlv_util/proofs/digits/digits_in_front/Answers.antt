use Rattle.std.proofs.Common.{◌<◌, List, ℕ, length, get_or, ◌∙◌, ap, refl, arith}
use Rattle.std.proofs.lemmas.Grind.{common_steps}
use Rattle.kmip_ttlv_util.proofs.HexDigits.{front_more}
use Rattle.kmip_ttlv_util.specs.LastDigits.{last_digits}
use Rattle.kmip_ttlv_util.proofs.digits.digits_in_front.Goals as goal

pub loop-n-init : goal.loop-n-init
unfolding last_digits
loop-n-init c = (omega arith, omega arith, λ h. refl, λ h. omega arith)

pub loop-n-preserved : goal.loop-n-preserved
loop-n-preserved c =
    let i = c.loop-n.invariant in
    let s = c.args.s.now in
    let n = c.loop-n.n in
    let within : n < length s = omega (arith, c.as_bytes-bytes.ensures.len, c.loop-n-test.true) in
    let is = c.value_of.ensures.digit ∙ ap (λ (t : List ℕ). get_or t n 0) c.as_bytes-bytes.ensures.value in
    let more = front_more s n c.loop-n.number c.value_of.result within c.value_of.ensures.small is i.2 i.3 in
    (omega arith, grind (arith, common_steps), λ h. (more h).0, λ h. (more h).1)
