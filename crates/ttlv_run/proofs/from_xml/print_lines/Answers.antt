use Rattle.std.proofs.Common.{arith, true, false}
use Rattle.std.proofs.lemmas.Result.{err_from_is_err_and}
use Rattle.kmip_ttlv_types.specs.Held.{held}
use Rattle.ttlv_run.specs.declared.messages.Reached.TheVariants.{Behind, Fault}
use Rattle.ttlv_run.specs.{Streaming.EndsAt, Streaming.PrintsOn, Texts.names_of, XmlTexts.in_lines, XmlTexts.SpoilsItems}
use Rattle.ttlv_run.proofs.XmlReads.{all_lines, some_lines, lines_go_on}
use Rattle.ttlv_run.proofs.from_xml.print_lines.Goals as goal

pub returns-in_err-print_messages-clause-err : goal.returns-in_err-print_messages-clause-err
returns-in_err-print_messages-clause-err g c =
    let y = err_from_is_err_and c.from_residual.result c.from_residual.ensures.1 in
    let names = names_of c.args.names.now in
    let bytes = c.args.bytes.now in
    let failed = c.in_err-print_messages.ensures.err in
    let spoils : SpoilsItems names false bytes (held g.W.Sink.emitted g.W.Sink.room c.args.output.now)
    (held g.W.Sink.emitted g.W.Sink.room c.print_messages.new.output) c.in_err-print_messages.field-0.0 = (
      c.in_err-print_messages.ensures.why,
      (failed.text, lines_go_on names bytes failed.text (λ k lt. omega (arith, c.type_inv.bytes k)) failed.is, failed.holds),
    ) in
    rw (y.1, y.2) spoils

pub returns-in-Behind-clause-ok : goal.returns-in-Behind-clause-ok
returns-in-Behind-clause-ok g c =
    let names = names_of c.args.names.now in
    let bytes = c.args.bytes.now in
    let printed = c.in_ok-print_messages.ensures.ok in
    let end : EndsAt bytes true (Behind c.in-Behind.field-0) = rw c.in-Behind.is at c.in_ok-print_messages.ensures.end in
    let prints : PrintsOn names in_lines 0 bytes true (Behind c.in-Behind.field-0) printed.text = rw c.in-Behind.is at printed.is in
    all_lines names bytes printed.text (held g.W.Sink.emitted g.W.Sink.room c.args.output.now)
    (held g.W.Sink.emitted g.W.Sink.room c.print_messages.new.output) printed.holds c.in-Behind.field-0 end prints

pub returns-in-Fault-clause-ok : goal.returns-in-Fault-clause-ok
returns-in-Fault-clause-ok g c =
    let names = names_of c.args.names.now in
    let bytes = c.args.bytes.now in
    let printed = c.in_ok-print_messages.ensures.ok in
    let prints : PrintsOn names in_lines 0 bytes true (Fault c.in-Fault.field-0) printed.text = rw c.in-Fault.is at printed.is in
    some_lines names bytes printed.text (held g.W.Sink.emitted g.W.Sink.room c.args.output.now)
    (held g.W.Sink.emitted g.W.Sink.room c.print_messages.new.output) printed.holds c.in-Fault.field-0 prints
