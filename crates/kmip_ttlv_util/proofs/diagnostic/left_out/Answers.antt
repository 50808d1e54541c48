use Rattle.std.proofs.Common.{arith, ℕ, ◌/◌, ◌^◌, ap, sym, ◌∙◌}
use Rattle.kmip_ttlv_util.proofs.PrefixNumbers.{left_prefix, left_nothing}
use Rattle.kmip_ttlv_util.proofs.diagnostic.left_out.Goals as goal

pub returns-then-deref-prefix-clause-stripped : goal.returns-then-deref-prefix-clause-stripped
returns-then-deref-prefix-clause-stripped c =
    let p = c.args.prefix.now in
    let is = c.requires.number c.requires.few in
    left_prefix p.text.now p.count p.number p.shift c.args.tag c.requires.few is.0 is.1 is.2 (omega arith)
    (ap (λ (n : ℕ). n / 2 ^ p.shift) (sym c.deref.ensures) ∙ c.if-deref-prefix.true)

pub returns-else-deref-prefix-clause-stripped : goal.returns-else-deref-prefix-clause-stripped
returns-else-deref-prefix-clause-stripped c =
    let p = c.args.prefix.now in
    let is = c.requires.number c.requires.few in
    left_nothing p.text.now p.count p.number p.shift c.args.tag c.requires.few is.0 is.1 is.2 (omega arith)
    (λ e. c.if-deref-prefix.false (ap (λ (n : ℕ). n / 2 ^ p.shift) c.deref.ensures ∙ e))
