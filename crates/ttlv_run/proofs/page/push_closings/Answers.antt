use Rattle.std.proofs.Common.{◌++◌, ◌∙◌, ap, List, ℕ, codes, append_assoc}
use Rattle.ttlv_run.specs.Pages.{closings}
use Rattle.ttlv_run.proofs.Pages.{closings_more}
use Rattle.ttlv_run.proofs.page.push_closings.Goals as goal

pub loop-preserved : goal.loop-preserved
loop-preserved g c =
    c.in_ok-extend_from_slice.ensures.items ∙ ap (λ (s : List ℕ). s ++ codes "</details>\n") c.loop.invariant
    ∙ append_assoc c.args.page.now.items (closings c.loop.counter) (codes "</details>\n")
    ∙ ap (λ (s : List ℕ). c.args.page.now.items ++ s) (closings_more c.loop.counter)
