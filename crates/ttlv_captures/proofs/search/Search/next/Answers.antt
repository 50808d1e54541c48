use Rattle.std.proofs.Common.{◌≡◌, ◌+◌, ◌-◌, ℕ, length, drop, subst, ap, arith}
use Rattle.ttlv_captures.specs.Captures.{NoneBetween, costs}
use Rattle.ttlv_captures.proofs.Costs.{costs_add}
use Rattle.ttlv_captures.proofs.search.Search.next.Goals as goal

pub invariant_of-self : goal.invariant_of-self
invariant_of-self g c =
    let old = c.args.self.now in
    let r = c.in_ok-reached.reached in
    let e = c.in_ok-reached.ensures in
    let far : r.behind ≡ old.offset + (r.behind - old.offset) = omega (arith, e.onward, e.further) in
    record { within = e.within; spent = omega (arith, costs_add old.text.now old.offset (r.behind - old.offset) r.behind far, e.spent, old.spent) }

pub returns-in-None-2-clause-ok : goal.returns-in-None-2-clause-ok
returns-in-None-2-clause-ok g c =
    let old = c.args.self.now in
    let s = old.text.now in
    let r = c.in_ok-reached.reached in
    let e = c.in_ok-reached.ensures in
    let end : r.offset ≡ length s = omega (arith, e.further, e.within, c.if-offset-self.false) in
    record {
      none = subst (NoneBetween s old.offset) end e.none;
      at = omega (arith, e.further, e.within, c.if-offset-self.false);
      onward = omega (arith, e.onward);
      spends = omega (arith, e.spends, ap (λ (k : ℕ). costs (drop old.offset s) (k - old.offset)) end);
    }
