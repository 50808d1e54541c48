use Rattle.ttlv_run.proofs.Appending.{decided_says}
use Rattle.ttlv_run.proofs.from_json.report_value_fault.Goals as goal

pub returns : goal.returns
returns g c = rw (← c.words.ensures) (decided_says _ _ _ _ (c.report.ensures _ _ (c.report-writable-2.ensures _ _
    (c.report-writable.ensures _ _ c.report_place-writable.ensures))))
