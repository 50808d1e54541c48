use Rattle.std.proofs.Common.{rules}
use Rattle.kmip_ttlv_types.specs.Held.{held, Gets}
use Rattle.kmip_ttlv_util.specs.Pieces.{SomeText, WritesFront, buffered}
use Rattle.kmip_ttlv_util.proofs.Saying.{closed_by, lent_buffer}
use Rattle.ttlv_run.specs.{Streaming.PrintsOn, Streaming.ContinuesBehind, Texts.names_of, Reasons.PrintsFront}
use Rattle.ttlv_run.proofs.{Printing.ok_so, Printing.printed_text, Windows.goes_on}
use Rattle.ttlv_run.proofs.run.print_messages.Goals as goal

pub returns-in-Ok-clause-ok : goal.returns-in-Ok-clause-ok
returns-in-Ok-clause-ok g c =
    let of = buffered g.W.Sink.emitted g.W.Sink.room in
    let has = held g.W.Sink.emitted g.W.Sink.room in
    let names = names_of c.args.names.now in
    let prints = PrintsOn names c.args.task c.args.base c.args.bytes.now c.args.last in
    let goes = ContinuesBehind names c.args.task c.args.base c.args.bytes.now c.args.last in
    let new = c.new-pieces.ensures in
    let printed = c.print_all-printed in
    let done = closed_by prints goes printed.result c.close.result (of c.new-pieces.result) (of printed.new.out) (of c.close.new.self) _ (has c.args.output.now)
    (lent_buffer g.W.Sink.emitted g.W.Sink.room c.new-pieces.result new.same_reference new.sink new.empty new.going) printed.ensures.ok printed.ensures.err
    (ok_so printed.result printed.ensures.end (λ x end t is. goes_on names c.args.task c.args.base c.args.bytes.now c.args.last x t end is)) c.close.ensures in
    let name = done.0 in
    let written : SomeText (prints c.in-Ok.reached) (Gets (has c.args.output.now) (has c.close.new.self.sink.now)) = rw c.in-Ok.is at done.1 in
    search rules

pub returns-in-Err-clause-err : goal.returns-in-Err-clause-err
returns-in-Err-clause-err g c =
    let of = buffered g.W.Sink.emitted g.W.Sink.room in
    let has = held g.W.Sink.emitted g.W.Sink.room in
    let names = names_of c.args.names.now in
    let prints = PrintsOn names c.args.task c.args.base c.args.bytes.now c.args.last in
    let goes = ContinuesBehind names c.args.task c.args.base c.args.bytes.now c.args.last in
    let new = c.new-pieces.ensures in
    let printed = c.print_all-printed in
    let done = closed_by prints goes printed.result c.close.result (of c.new-pieces.result) (of printed.new.out) (of c.close.new.self) _ (has c.args.output.now)
    (lent_buffer g.W.Sink.emitted g.W.Sink.room c.new-pieces.result new.same_reference new.sink new.empty new.going) printed.ensures.ok printed.ensures.err
    (ok_so printed.result printed.ensures.end (λ x end t is. goes_on names c.args.task c.args.base c.args.bytes.now c.args.last x t end is)) c.close.ensures in
    let name = done.0 in
    let failed : SomeText goes (WritesFront (has c.args.output.now) (has c.close.new.self.sink.now) c.in-Err.e) = rw c.in-Err.is at done.1 in
    let written : SomeText goes (PrintsFront c.run_error_of.result (has c.args.output.now) (has c.close.new.self.sink.now)) =
    printed_text c.run_error_of.ensures failed in
    search rules
