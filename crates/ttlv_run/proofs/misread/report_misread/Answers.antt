use Rattle.std.proofs.Common.{◌≡◌, rules, subst}
use Rattle.std.specs.Fmt.{decimal}
use Rattle.kmip_ttlv_types.specs.Held.{Says}
use Rattle.ttlv_run.proofs.{Appending.decided_says, Decided.misread_is}
use Rattle.ttlv_run.proofs.misread.report_misread.Goals as goal

pub returns : goal.returns
returns g c =
    let reported = decided_says _ _ _ _
    (c.report.ensures _ _ (c.report_kind-writable.ensures _ _
    (c.report-writable-4.ensures _ _
    (c.report-writable-3.ensures _ _ (c.report-writable-2.ensures _ _ (c.report-writable.ensures _ _ c.report_place-writable.ensures)))))) in
    let digits : c.format.result.now ≡ decimal c.args.misread.offset = search rules in
    subst (Says _ _) (misread_is c.args.name.now c.words.result.now c.format.result.now c.line_end.result.now c.args.misread c.words.ensures digits
    c.line_end.ensures) reported
