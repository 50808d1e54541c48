use Rattle.std.proofs.Common.{◌≡◌, ◌+◌, ℕ, List, length, sym, subst, arith}
use Rattle.ttlv_run.specs.declared.document.Added.TheVariants.{Message}
use Rattle.ttlv_run.specs.Documents.{AddsLine, Collects, none_collected, one_more}
use Rattle.ttlv_run.proofs.document.collect.Goals as goal

pub lines-init : goal.lines-init
lines-init g c = record {
  within = omega arith;
  collects = subst (λ (out : List ℕ). Collects c.args.text.now 0 out) (sym c.requires) none_collected;
}

pub lines-preserved : goal.lines-preserved
lines-preserved g c =
    let line = c.in-Some.line.now in
    let old = c.lines.document in
    let new = c.add_line.new.document in
    let stands = c.in-Some.ensures in
    let h : AddsLine line old new Message = rw c.in-Message.is at c.in_ok-add_line.ensures.ok in
    let next : c.lines.at + (length line + 1) ≡ c.lines.at + length line + 1 = omega arith in
    record {
      within = omega (arith, stands.within);
      collects = one_more c.lines.at (c.lines.at + (length line + 1)) old new line h.0 c.lines.invariant.collects stands h.1 h.2 next;
    }
