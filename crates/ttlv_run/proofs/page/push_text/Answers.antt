use Rattle.std.proofs.Common.{◌++◌, ◌∙◌, ap, sym, List, ℕ, get_or, take, append_assoc, append-nil}
use Rattle.ttlv_run.specs.Pages.{page_byte, page_text}
use Rattle.ttlv_run.proofs.Pages.{no_text, text_more}
use Rattle.ttlv_run.proofs.page.push_text.Goals as goal

pub loop-b-init : goal.loop-b-init
loop-b-init g c = sym (ap (λ (s : List ℕ). c.args.page.now.items ++ s) no_text ∙ append-nil c.args.page.now.items)

pub loop-b-preserved : goal.loop-b-preserved
loop-b-preserved g c =
    let text = c.args.text.now in
    let n = c.loop-b.b-index in
    c.in_ok-push_byte.ensures ∙ ap (λ (s : List ℕ). s ++ page_byte (get_or text n 0)) c.loop-b.invariant
    ∙ append_assoc c.args.page.now.items (page_text (take n text)) (page_byte (get_or text n 0))
    ∙ ap (λ (s : List ℕ). c.args.page.now.items ++ s) (text_more text n 0 c.loop-b-test.true)
