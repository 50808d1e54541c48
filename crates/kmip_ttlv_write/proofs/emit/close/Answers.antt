use Rattle.std.proofs.Common.{arith, ℕ, ◌-◌, refl, sym, subst}
use Rattle.kmip_ttlv_write.specs.OpenStructures.{Holds, close_one}
use Rattle.kmip_ttlv_write.proofs.Holding.{place, closable, close_holds}
use Rattle.kmip_ttlv_write.proofs.emit.close.Goals as goal

pub overflow_cast-place : goal.overflow_cast-place
overflow_cast-place c = omega (arith, (closable c.requires).short)

pub set_length-requires : goal.set_length-requires
set_length-requires c = let k = closable c.requires in omega (arith, k.header, k.room)

pub overflow_sub-result : goal.overflow_sub-result
overflow_sub-result c = omega (arith, (closable c.requires).link, c.length_at-link.ensures)

pub returns-clause-holds : goal.returns-clause-holds
returns-clause-holds c = λ o h.
    let p = c.args.place in
    subst (λ (n : ℕ). Holds (close_one o) c.set_length.new.out (place p.at (p.top - n) (p.depth - 1))) (sym c.length_at-link.ensures)
    (close_holds c.args.out.now c.set_length.new.out p (p.at - p.top - 8) c.requires.some refl c.set_length.ensures o h)
