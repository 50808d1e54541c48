use Rattle.std.proofs.Common.{[], refl}
use Rattle.std.proofs.lemmas.Result.{err_from_is_err_and}
use Rattle.kmip_ttlv_types.specs.Held.{held}
use Rattle.kmip_ttlv_types.proofs.Held.{gets_none}
use Rattle.kmip_ttlv_util.specs.Pieces.{SomeText}
use Rattle.ttlv_run.specs.declared.run_error.RunError.TheVariants.{NoMemory}
use Rattle.ttlv_run.specs.{Reasons.PrintsFront, Traffic.head, Traffic.IsFrontOf}
use Rattle.ttlv_run.proofs.Appending.{memory_ended}
use Rattle.ttlv_run.proofs.traffic.print_head.Goals as goal

pub returns-in_err-line-clause-err : goal.returns-in_err-line-clause-err
returns-in_err-line-clause-err g c =
    let y = err_from_is_err_and c.from_residual.result c.from_residual.ensures.1 in
    let has = held g.W.Sink.emitted g.W.Sink.room c.args.output.now in
    let all = head c.args.task c.args.message.now in
    let broken : SomeText (IsFrontOf all) (PrintsFront NoMemory has has) =
    record { text = []; is = (all, refl); holds = memory_ended [] (gets_none has) } in
    rw (y.1, y.2) broken
