use Rattle.std.proofs.Common.{arith, ◌∙◌, ◌<◌, ◌++◌, inr, List, ℕ, refl, ap}
use Rattle.std.proofs.lemmas.Result.{err_from_is_err_and}
use Rattle.kmip_ttlv_types.specs.Held.{held}
use Rattle.ttlv_run.specs.{Runs.streams, Streaming.window_bytes, Texts.names_of, Traffic.notes_of, Traffic.PrintedPackets}
use Rattle.ttlv_run.proofs.TrafficTexts.{decides_by, has_of, packets_all, packets_lost, unread_packets, unwritten_packets}
use Rattle.ttlv_run.proofs.traffic.respond_packets.Goals as goal

-- reading failed
pub returns-in_err-read_rest : goal.returns-in_err-read_rest
returns-in_err-read_rest g c = λ known h.
    let y = err_from_is_err_and c.from_residual.result c.from_residual.ensures.1 in
    let output = held g.W.Sink.emitted g.W.Sink.room c.args.output.now in
    let left = g.R.Source.left in
    let decides = decides_by c.args.ended c.args.job.now.encoding (g.R.Source.left c.args.input.now) (window_bytes c.args.window)
    c.requires.front c.requires.at_end in
    let fails = unread_packets (names_of c.args.names.now) c.args.job.now g.R.Source.can_fail c.args.port known (left c.args.input.now)
    (left c.read_rest.new.input) output (window_bytes c.args.window) h decides c.requires.port _ c.in_err-read_rest.ensures.why in
    rw (y.1, y.2) (fails, refl)

pub returns-in_err-notes : goal.returns-in_err-notes
returns-in_err-notes g c = λ known h.
    let y = err_from_is_err_and c.from_residual-in_err-notes.result c.from_residual-in_err-notes.ensures.1 in
    let has = held g.W.Sink.emitted g.W.Sink.room in
    let s = streams g.R.Source.can_fail known (g.R.Source.left c.read_rest.new.input) (has c.args.output.now) (has c.print_packets.new.output) in
    let decides = decides_by c.args.ended c.args.job.now.encoding (g.R.Source.left c.args.input.now) (window_bytes c.args.window)
    c.requires.front c.requires.at_end in
    let there = has_of c.args.job.now s c.args.port _ c.buffered-capture.result.now _ c.as_slice-bytes.result.now _ c.as_slice-messages.result.now
    c.in_ok-packets.packets.end h decides c.requires.port
    c.in_ok-read_rest.ensures.ok c.buffered-capture.ensures.are c.as_slice-bytes.ensures.value c.as_slice-messages.ensures.value c.in_ok-packets.ensures in
    let broken = c.in_err-notes.ensures.err in
    rw (y.1, y.2) (unwritten_packets broken.of_printing (record { has = there; breaks = broken }), refl)

pub returns-in_err-note_whole : goal.returns-in_err-note_whole
returns-in_err-note_whole g c = λ known h.
    let y = err_from_is_err_and c.from_residual-in_err-note_whole.result c.from_residual-in_err-note_whole.ensures.1 in
    let has = held g.W.Sink.emitted g.W.Sink.room in
    let s = streams g.R.Source.can_fail known (g.R.Source.left c.read_rest.new.input) (has c.args.output.now) (has c.print_packets.new.output) in
    let decides = decides_by c.args.ended c.args.job.now.encoding (g.R.Source.left c.args.input.now) (window_bytes c.args.window)
    c.requires.front c.requires.at_end in
    let there = has_of c.args.job.now s c.args.port _ c.buffered-capture.result.now _ c.as_slice-bytes.result.now _ c.as_slice-messages.result.now
    c.in_ok-packets.packets.end h decides c.requires.port
    c.in_ok-read_rest.ensures.ok c.buffered-capture.ensures.are c.as_slice-bytes.ensures.value c.as_slice-messages.ensures.value c.in_ok-packets.ensures in
    let lost = packets_lost (names_of c.args.names.now) c.args.job.now c.as_slice-bytes.result.now c.as_slice-messages.result.now _
    (packets_all (names_of c.args.names.now) c.args.job.now c.as_slice-bytes.result.now c.as_slice-messages.result.now c.in_ok-notes.ensures.ok) in
    rw (y.1, y.2) (inr (record { has = there; breaks = lost }), refl)

pub returns-in_err-rest : goal.returns-in_err-rest
returns-in_err-rest g c = λ known h.
    let y = err_from_is_err_and c.from_residual-in_err-rest.result c.from_residual-in_err-rest.ensures.1 in
    let has = held g.W.Sink.emitted g.W.Sink.room in
    let s = streams g.R.Source.can_fail known (g.R.Source.left c.read_rest.new.input) (has c.args.output.now) (has c.print_packets.new.output) in
    let decides = decides_by c.args.ended c.args.job.now.encoding (g.R.Source.left c.args.input.now) (window_bytes c.args.window)
    c.requires.front c.requires.at_end in
    let there = has_of c.args.job.now s c.args.port _ c.buffered-capture.result.now _ c.as_slice-bytes.result.now _ c.as_slice-messages.result.now
    c.in_ok-packets.packets.end h decides c.requires.port
    c.in_ok-read_rest.ensures.ok c.buffered-capture.ensures.are c.as_slice-bytes.ensures.value c.as_slice-messages.ensures.value c.in_ok-packets.ensures in
    let lost = packets_lost (names_of c.args.names.now) c.args.job.now c.as_slice-bytes.result.now c.as_slice-messages.result.now _
    (packets_all (names_of c.args.names.now) c.args.job.now c.as_slice-bytes.result.now c.as_slice-messages.result.now c.in_ok-notes.ensures.ok) in
    rw (y.1, y.2) (inr (record { has = there; breaks = lost }), refl)

pub returns-then-notes-eq0 : goal.returns-then-notes-eq0
returns-then-notes-eq0 g c = λ known h.
    let has = held g.W.Sink.emitted g.W.Sink.room in
    let s = streams g.R.Source.can_fail known (g.R.Source.left c.read_rest.new.input) (has c.args.output.now) (has c.print_packets.new.output) in
    let decides = decides_by c.args.ended c.args.job.now.encoding (g.R.Source.left c.args.input.now) (window_bytes c.args.window)
    c.requires.front c.requires.at_end in
    let there = has_of c.args.job.now s c.args.port _ c.buffered-capture.result.now _ c.as_slice-bytes.result.now _ c.as_slice-messages.result.now
    c.in_ok-packets.packets.end h decides c.requires.port
    c.in_ok-read_rest.ensures.ok c.buffered-capture.ensures.are c.as_slice-bytes.ensures.value c.as_slice-messages.ensures.value c.in_ok-packets.ensures in
    let printed : PrintedPackets (names_of c.args.names.now) c.args.job.now s (notes_of c.note_whole.new.notes) = record {
      has = there;
      of_messages = notes_of c.in_ok-notes.notes;
      printed = c.in_ok-notes.ensures.ok;
      all = c.in_ok-note_whole.ensures;
    } in
    ((notes_of c.note_whole.new.notes, printed, c.if-notes-eq0.true), refl)

pub returns : goal.returns
returns g c = λ known h.
    let has = held g.W.Sink.emitted g.W.Sink.room in
    let s = streams g.R.Source.can_fail known (g.R.Source.left c.read_rest.new.input) (has c.args.output.now) (has c.print_packets.new.output) in
    let decides = decides_by c.args.ended c.args.job.now.encoding (g.R.Source.left c.args.input.now) (window_bytes c.args.window)
    c.requires.front c.requires.at_end in
    let there = has_of c.args.job.now s c.args.port _ c.buffered-capture.result.now _ c.as_slice-bytes.result.now _ c.as_slice-messages.result.now
    c.in_ok-packets.packets.end h decides c.requires.port
    c.in_ok-read_rest.ensures.ok c.buffered-capture.ensures.are c.as_slice-bytes.ensures.value c.as_slice-messages.ensures.value c.in_ok-packets.ensures in
    let notes = notes_of c.note_whole.new.notes in
    let printed : PrintedPackets (names_of c.args.names.now) c.args.job.now s notes = record {
      has = there;
      of_messages = notes_of c.in_ok-notes.notes;
      printed = c.in_ok-notes.ensures.ok;
      all = c.in_ok-note_whole.ensures;
    } in
    let some : 0 < c.note_whole.new.notes.count = omega (arith, c.if-notes-eq0.false) in
    let lines = ap (λ (t : List ℕ). notes.lines ++ t) (c.as_str.ensures.value ∙ c.in_ok-rest.ensures) in
    (notes.lines ++ c.as_str.result.now, (notes, printed, some, lines), c.report_notes.ensures)
