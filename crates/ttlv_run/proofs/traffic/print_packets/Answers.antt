use Rattle.std.proofs.Common.{List, ℕ, refl, ap}
use Rattle.std.proofs.lemmas.Result.{err_from_is_err_and}
use Rattle.kmip_ttlv_types.specs.Held.{held}
use Rattle.ttlv_run.specs.{Texts.names_of, Traffic.Notes}
use Rattle.ttlv_run.proofs.TrafficTexts.{packets_none, packets_more, packets_broken, packets_lost}
use Rattle.ttlv_run.proofs.traffic.print_packets.Goals as goal

pub loop-message-init : goal.loop-message-init
loop-message-init g c =
    let made = λ (b : List ℕ). let n : Notes = record { count = 0; lines = b } in n in
    packets_none (names_of c.args.names.now) c.args.job.now c.args.bytes.now c.args.messages.now (held g.W.Sink.emitted g.W.Sink.room c.args.output.now)
    (ap made c.new.ensures.bytes)

pub returns-in_err-place-clause-err : goal.returns-in_err-place-clause-err
returns-in_err-place-clause-err g c =
    let y = err_from_is_err_and c.from_residual.result c.from_residual.ensures.1 in
    rw (y.1, y.2) (packets_broken (names_of c.args.names.now) c.args.job.now c.args.bytes.now c.args.messages.now c.loop-message.message-index _
    c.loop-message.invariant c.in_err-place.ensures.why c.in_err-place.ensures.err)

pub returns-in_err-note_trouble-clause-err : goal.returns-in_err-note_trouble-clause-err
returns-in_err-note_trouble-clause-err g c =
    let y = err_from_is_err_and c.from_residual-in_err-note_trouble.result c.from_residual-in_err-note_trouble.ensures.1 in
    let names = names_of c.args.names.now in
    let one = packets_more names c.args.job.now c.args.bytes.now c.args.messages.now c.loop-message.message-index _ c.loop-message-test.true
    c.loop-message.invariant c.in_ok-place.ensures.ok refl in
    rw (y.1, y.2) (packets_lost names c.args.job.now c.args.bytes.now c.args.messages.now _ one)

pub loop-message-preserved : goal.loop-message-preserved
loop-message-preserved g c =
    packets_more (names_of c.args.names.now) c.args.job.now c.args.bytes.now c.args.messages.now c.loop-message.message-index _ c.loop-message-test.true
    c.loop-message.invariant c.in_ok-place.ensures.ok c.in_ok-note_trouble.ensures
