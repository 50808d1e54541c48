use Rattle.std.proofs.Common.{◌≡◌, ◌++◌, List, ℕ, ap, sym, ◌∙◌}
use Rattle.ttlv_run.proofs.Entries.{front_next}
use Rattle.ttlv_run.proofs.masks.bit_name.Goals as goal

pub returns-in-Some : goal.returns-in-Some
returns-in-Some c =
    let h = c.in-Some.ensures.cases in
    let is : c.args.list.now ≡ c.args.front.now ++ c.in-Some.named.now = h.1.1 ∙ ap (λ (l : List ℕ). c.args.front.now ++ l) (sym h.2) in
    rw (is, c.cut.ensures.entry, c.cut.ensures.others) (front_next c.args.bit c.args.front.now c.in-Some.named.now c.requires)
