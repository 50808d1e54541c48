use Rattle.std.proofs.Common.{rules, ◌≡◌, ◌++◌, ◌∙◌, ap, ℕ, length}
use Rattle.ttlv_run.specs.Pages.{closings}
use Rattle.ttlv_run.proofs.Pages.{first_row, page_ends}
use Rattle.ttlv_run.proofs.page.page_of.Goals as goal

pub lines-preserved : goal.lines-preserved
lines-preserved g c =
    first_row c.lines.page.items c.lines.outer.items c.lines.rest.now c.cut.result.0.now c.cut.result.1.now c.first_indent.result
    c.cut.ensures.line c.cut.ensures.others c.first_indent.ensures c.in_ok-push_row.ensures.row c.in_ok-push_row.ensures.outer ∙ c.lines.invariant

pub returns : goal.returns
returns g c =
    let long : c.len.result ≡ length c.lines.outer.items = search rules in
    page_ends c.lines.page.items c.lines.outer.items c.args.text.now c.lines.rest.now (search rules) c.lines.invariant
    (c.in_ok-push_closings.ensures ∙ ap (λ (n : ℕ). c.lines.page.items ++ closings n) long) c.in_ok-push_foot.ensures
