use Rattle.std.proofs.lemmas.Result.{err_from_is_err_and}
use Rattle.kmip_ttlv_types.specs.Held.{held}
use Rattle.kmip_ttlv_util.specs.Pieces.{SomeText}
use Rattle.ttlv_run.specs.{Reasons.PrintsFront, Texts.names_of, Traffic.BreaksMessage, Traffic.in_head}
use Rattle.ttlv_run.proofs.TrafficTexts.{message_done, message_broken}
use Rattle.ttlv_run.proofs.traffic.print_message.Goals as goal

pub returns-in_err-print_head-clause-err : goal.returns-in_err-print_head-clause-err
returns-in_err-print_head-clause-err g c =
    let y = err_from_is_err_and c.from_residual.result c.from_residual.ensures.1 in
    let f = c.in_err-print_head.ensures.err in
    let has = held g.W.Sink.emitted g.W.Sink.room in
    let broken : SomeText (BreaksMessage (names_of c.args.names.now) c.args.job.now c.args.bytes.now c.args.message.now)
    (PrintsFront c.in_err-print_head.field-0.0 (has c.args.output.now) (has c.print_head.new.output)) =
    record { text = f.text; is = in_head f.is.0 f.is.1; holds = f.holds } in
    rw (y.1, y.2) broken

pub returns-in_err-print_messages-clause-err : goal.returns-in_err-print_messages-clause-err
returns-in_err-print_messages-clause-err g c =
    let y = err_from_is_err_and c.from_residual-in_err-print_messages.result c.from_residual-in_err-print_messages.ensures.1 in
    let alone = c.message_bytes-alone.result.now in
    rw (y.1, y.2) (message_broken (names_of c.args.names.now) c.args.job.now c.args.bytes.now c.args.message.now alone c.message_bytes-alone.ensures.are
    c.in_ok-print_head.ensures.ok c.message_bytes-alone.ensures.bytes c.in_err-print_messages.ensures.err)

pub returns-in-Behind-clause-ok : goal.returns-in-Behind-clause-ok
returns-in-Behind-clause-ok g c =
    let done = message_done (names_of c.args.names.now) c.args.job.now c.args.bytes.now c.args.message.now c.message_bytes-alone.result.now _
    c.message_bytes-alone.ensures.are c.in_ok-print_head.ensures.ok c.in_ok-print_messages.ensures.end c.in_ok-print_messages.ensures.ok in
    rw c.in-Behind.is at done

pub returns-in-Fault-clause-ok : goal.returns-in-Fault-clause-ok
returns-in-Fault-clause-ok g c =
    let done = message_done (names_of c.args.names.now) c.args.job.now c.args.bytes.now c.args.message.now c.message_bytes-alone.result.now _
    c.message_bytes-alone.ensures.are c.in_ok-print_head.ensures.ok c.in_ok-print_messages.ensures.end c.in_ok-print_messages.ensures.ok in
    rw c.in-Fault.is at done
