use Rattle.std.proofs.Common.{rules}
use Rattle.kmip_ttlv_types.specs.Held.{held}
use Rattle.kmip_ttlv_util.specs.Pieces.{SomeText, WritesFront, buffered}
use Rattle.kmip_ttlv_util.proofs.Saying.{closed_by, lent_buffer}
use Rattle.kmip_ttlv_util.specs.TagNames.{name_in}
use Rattle.ttlv_run.specs.{Backs.ReadsBack, Backs.ReadsFront, Reasons.PrintsFront}
use Rattle.ttlv_run.proofs.{Printing.ok_all, Printing.printed_text, BackLines.back_front}
use Rattle.ttlv_run.proofs.run.print_lines.Goals as goal

pub returns-in-Err-clause-err : goal.returns-in-Err-clause-err
returns-in-Err-clause-err g c =
    let of = buffered g.W.Sink.emitted g.W.Sink.room in
    let has = held g.W.Sink.emitted g.W.Sink.room in
    let tags = name_in c.args.names.now.tags in
    let front = ReadsFront tags c.args.prefix.now c.args.bytes.now c.args.last in
    let new = c.new-pieces.ensures in
    let printed = c.print_back-printed in
    let done = closed_by (ReadsBack tags c.args.prefix.now c.args.base c.args.bytes.now c.args.last) front printed.result c.close.result
    (of c.new-pieces.result) (of printed.new.out) (of c.close.new.self) _ (has c.args.output.now)
    (lent_buffer g.W.Sink.emitted g.W.Sink.room c.new-pieces.result new.same_reference new.sink new.empty new.going) printed.ensures.ok printed.ensures.err
    (ok_all printed.result (back_front tags c.args.prefix.now c.args.bytes.now c.args.base c.args.last)) c.close.ensures in
    let name = done.0 in
    let failed : SomeText front (WritesFront (has c.args.output.now) (has c.close.new.self.sink.now) c.in-Err.e) = rw c.in-Err.is at done.1 in
    let written : SomeText front (PrintsFront c.run_error_of.result (has c.args.output.now) (has c.close.new.self.sink.now)) =
    printed_text c.run_error_of.ensures failed in
    search rules
