use Rattle.std.proofs.Common.{ℕ, List, ◌++◌, ◌∙◌, ap, sym, take, arith, string_bytes}
use Rattle.std.specs.List.{flat_map}
use Rattle.ttlv_run.specs.Differences.{behind}
use Rattle.ttlv_run.proofs.LineLists.{texts, printed_more, line_added}
use Rattle.ttlv_run.proofs.differences.push_behind.Goals as goal

pub lines-preserved : goal.lines-preserved
lines-preserved g c =
    let old = string_bytes c.args.out.now in
    let mark = c.args.mark.now in
    line_added old (flat_map (behind mark) (take c.lines.line-index (texts c.args.lines.now))) mark _
    c.lines.invariant c.in_ok-push_str.ensures.bytes c.in_ok-push_str-2.ensures.bytes c.in_ok-push_str-3.ensures.bytes
    ∙ ap (λ (s : List ℕ). old ++ s) (sym (printed_more (behind mark) c.args.lines.now c.lines.line-index _ (omega arith)))
