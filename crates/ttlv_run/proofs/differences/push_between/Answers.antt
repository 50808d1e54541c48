use Rattle.std.proofs.Common.{◌-◌, length, take, arith}
use Rattle.std.specs.List.{slice_range}
use Rattle.std.proofs.lemmas.Result.{on_ok_weaker}
use Rattle.ttlv_run.proofs.LineLists.{texts, three_parts, three_alike}
use Rattle.ttlv_run.proofs.MarkedLines.{adds_none, adds_then, adds_of, marked_both, marked_apart}
use Rattle.ttlv_run.proofs.differences.push_between.Goals as goal

pub returns : goal.returns
returns g c =
    let first = c.args.first.now in
    let second = c.args.second.now in
    let front = c.args.front in
    let end = c.common_end-end.result in
    let rest = slice_range first front (length first) in
    let other = slice_range second front (length second) in
    let n = length rest - end in
    let m = length other - end in
    let both = adds_then adds_none (marked_both (texts (take front first))) c.in_ok-push_behind.ensures in
    let apart = adds_then both (marked_apart (texts (take n rest)) (texts (take m other))) c.in_ok-push_apart.ensures in
    on_ok_weaker c.push_behind-2.result
    (λ added.
    adds_of (three_parts first front n c.requires.first (omega arith))
    (three_alike first second front n m c.requires.second c.requires.same (omega arith) c.common_end-end.ensures.same)
    (adds_then apart (marked_both (texts (slice_range rest n (length rest)))) added))
    c.push_behind-2.ensures
