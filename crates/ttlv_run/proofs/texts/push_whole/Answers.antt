use Rattle.std.proofs.Common.{[], arith}
use Rattle.kmip_ttlv_util.specs.Pieces.{SomeText}
use Rattle.ttlv_run.specs.Texts.{names_of}
use Rattle.ttlv_run.specs.declared.job.Task.TheVariants.{Whole as OfWhole}
use Rattle.ttlv_run.proofs.Printing.{err_holds, Decided, decided_some}
use Rattle.ttlv_run.proofs.texts.push_whole.Goals as goal

-- out of memory before the text
pub returns-in_err-fault-clause-err : goal.returns-in_err-fault-clause-err
returns-in_err-fault-clause-err g c =
    let m = c.args.message.now in
    let some = decided_some (names_of c.args.names.now) (OfWhole c.args.strict) c.args.at m (λ k. omega (arith, c.type_inv.message k)) in
    let broken : SomeText (Decided (names_of c.args.names.now) (OfWhole c.args.strict) c.args.at m) (λ t. g.S.TextSink.breaks c.args.out.now t c.args.out.now) =
    record {
      text = some.0;
      is = some.1;
      holds = g.met.S.TextSink.breaks_first _ _ [] some.0 (g.met.S.TextSink.breaks_after _ _ [] (g.met.S.TextSink.adds_none c.args.out.now));
    } in
    err_holds _ _ broken
