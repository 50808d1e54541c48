use Rattle.std.proofs.Common.{arith}
use Rattle.std.proofs.lemmas.Result.{err_from_is_err_and}
use Rattle.kmip_ttlv_types.specs.Held.{held}
use Rattle.kmip_ttlv_util.specs.Pieces.{SomeText}
use Rattle.ttlv_run.specs.{Finds.ShowsFront, Reasons.PrintsFront, Texts.names_of}
use Rattle.ttlv_run.proofs.Finding.{printed_one, printed_part}
use Rattle.ttlv_run.proofs.find.print_items.Goals as goal

pub returns-in_err-print_messages-clause-err : goal.returns-in_err-print_messages-clause-err
returns-in_err-print_messages-clause-err g c =
    let y = err_from_is_err_and c.from_residual.result c.from_residual.ensures.1 in
    let names = names_of c.args.names.now in
    let failed = c.in_err-print_messages.ensures.err in
    let broken : SomeText (ShowsFront names c.args.look c.args.message.now)
    (PrintsFront c.in_err-print_messages.field-0.0 (held g.W.Sink.emitted g.W.Sink.room c.args.output.now)
    (held g.W.Sink.emitted g.W.Sink.room c.print_messages.new.output)) = record {
      text = failed.text;
      is = printed_part c.requires.whole.1 names c.args.look failed.text (λ k lt. omega (arith, c.type_inv.message k)) failed.is;
      holds = failed.holds;
    } in
    rw (y.1, y.2) broken

pub returns-clause-ok : goal.returns-clause-ok
returns-clause-ok g c =
    let lines = c.in_ok-print_messages.ensures.ok in
    record {
      text = lines.text;
      is = printed_one c.requires.whole.1 (names_of c.args.names.now) c.args.look _ lines.text c.in_ok-print_messages.ensures.end lines.is;
      holds = lines.holds;
    }
