use Rattle.std.proofs.Common.{arith, refl}
use Rattle.kmip_ttlv_util.proofs.HexDigits.{shown_digits}
use Rattle.kmip_ttlv_util.proofs.digits.shown.Goals as goal

pub returns-then-count-least-clause-digits : goal.returns-then-count-least-clause-digits
returns-then-count-least-clause-digits c = shown_digits c.args.least c.args.least c.args.n (omega arith) (λ h. refl)
    (λ h. absurd (omega (arith, c.count_of-count.ensures.count)))

pub returns-else-count-least-clause-digits : goal.returns-else-count-least-clause-digits
returns-else-count-least-clause-digits c = shown_digits c.args.least c.count_of-count.result c.args.n (omega arith)
    (λ h. absurd (omega (arith, c.count_of-count.ensures.count))) (λ h. c.count_of-count.ensures.count)
