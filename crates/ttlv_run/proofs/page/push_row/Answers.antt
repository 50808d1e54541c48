use Rattle.std.proofs.Common.{arith, ◌≡◌, ◌-◌, ◌++◌, ◌∙◌, ap, ℕ, List, length}
use Rattle.ttlv_run.specs.declared.page.Row.{Row}
use Rattle.ttlv_run.specs.Pages.{indent, page_text, row_begins, row_ends, closings, around, with_own}
use Rattle.ttlv_run.proofs.Pages.{row_behind, open_is}
use Rattle.ttlv_run.proofs.page.push_row.Goals as goal

pub returns-clause-row : goal.returns-clause-row
returns-clause-row g c =
    let outer = c.args.outer.now.items in
    let line = c.args.line.now in
    let count : c.len-count.result - c.len.result ≡ length outer - length (around (indent line) outer) =
    omega (
      arith,
      c.len-count.ensures,
      c.len.ensures,
      ap (λ (s : List ℕ). length s) c.keep_around.ensures.kept,
      ap (λ (n : ℕ). length (around n outer)) c.indent-far.ensures,
    ) in
    row_behind c.args.page.now.items outer line c.args.next
    (c.in_ok-push_closings.ensures ∙ ap (λ (n : ℕ). c.args.page.now.items ++ closings n) count)
    (c.in_ok-push_line.ensures ∙ ap (λ (r : Row). c.push_closings.new.page.items ++ (row_begins r ++ (page_text line ++ row_ends r))) c.row_of-row.ensures)

pub returns-clause-outer : goal.returns-clause-outer
returns-clause-outer g c =
    let outer = c.args.outer.now.items in
    let line = c.args.line.now in
    c.in_ok-push_own.ensures ∙ ap (with_own c.row_of-row.result c.indent-far.result) c.keep_around.ensures.kept
    ∙ ap (λ (n : ℕ). with_own c.row_of-row.result n (around n outer)) c.indent-far.ensures
    ∙ ap (λ (r : Row). with_own r (indent line) (around (indent line) outer)) c.row_of-row.ensures ∙ open_is outer line c.args.next
