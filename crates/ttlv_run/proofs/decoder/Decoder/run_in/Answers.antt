use Rattle.std.proofs.Common.{rules, arith, ◌≡◌, ◌*◌, ◌/◌, ◌%◌, ◌≤◌, ℕ, subst, sym}
use Rattle.ttlv_run.specs.Inputs.{width}
use Rattle.ttlv_run.proofs.Groups.{whole_digits}
use Rattle.ttlv_run.proofs.DigitRuns.{is_run}
use Rattle.ttlv_run.proofs.decoder.Decoder.run_in.Goals as goal

pub returns-clause-run : goal.returns-clause-run
returns-clause-run c = λ some.
    let begins = c.begins_group.ensures (search rules) in
    let n = c.saturating_sub.result in
    let form = c.args.self.now.form in
    let whole = whole_digits form n in
    let w = c.width-width.result in
    let groups : (n / w * w) % width form ≡ 0 = subst (λ (k : ℕ). (n / k * k) % width form ≡ 0) (sym c.width-width.ensures.is) whole.0 in
    let within : n / w * w ≤ n = subst (λ (k : ℕ). n / k * k ≤ n) (sym c.width-width.ensures.is) whole.1 in
    is_run c.args.chars.now c.digits_in.result _ begins.0 c.digits_in.ensures.within c.digits_in.ensures.all
    (omega (arith, c.saturating_sub.ensures, some, within)) groups some
