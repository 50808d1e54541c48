use Rattle.std.proofs.Common.{◌++◌, List, ℕ, [], subst}
use Rattle.kmip_ttlv_types.specs.Held.{held, Says}
use Rattle.kmip_ttlv_types.proofs.Held.{gets_none}
use Rattle.ttlv_run.proofs.Appending.{decided_says}
use Rattle.ttlv_run.proofs.traffic.report_notes.Goals as goal

pub returns : goal.returns
returns g c =
    let has = held g.E.Sink.emitted g.E.Sink.room c.args.errors.now in
    let said = decided_says _ _ _ _ (c.report.ensures _ _ (c.report-writable.ensures has [] (gets_none has))) in
    subst (λ (t : List ℕ). Says has (held g.E.Sink.emitted g.E.Sink.room c.report.new.errors) (t ++ c.args.rest.now)) c.as_str.ensures.value said
