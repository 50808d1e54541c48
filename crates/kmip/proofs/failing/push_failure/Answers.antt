use Rattle.std.proofs.Common.{OnOk, string_bytes, subst, sym}
use Rattle.kmip.specs.Failing.{Tells}
use Rattle.kmip.proofs.failing.push_failure.Goals as goal

pub returns-in-Receiving : goal.returns-in-Receiving
returns-in-Receiving g c =
    subst (λ f. OnOk c.push_error-in-Receiving.result (Tells f (string_bytes c.args.out.now) (string_bytes c.push_error-in-Receiving.new.out)))
    (sym c.in-Receiving.is) c.push_error-in-Receiving.ensures
