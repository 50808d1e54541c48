use Rattle.std.proofs.Common.{◌≡◌, rules}
use Rattle.std.specs.Fmt.{decimal}
use Rattle.ttlv_run.proofs.Appending.{decided_says}
use Rattle.ttlv_run.proofs.table.report_line.Goals as goal

pub returns : goal.returns
returns g c =
    let digits : c.format.result.now ≡ decimal c.args.line = search rules in
    rw (← digits) (decided_says _ _ _ _ (c.report.ensures _ _ (c.report-writable-2.ensures _ _
    (c.report-writable.ensures _ _ c.report_place-writable.ensures))))
