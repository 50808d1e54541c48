use Rattle.std.proofs.Common.{◌≡◌, ◌∙◌, ◌≤◌, inr, ℕ, List, [], length, take, drop, ap, refl, sym, arith}
use Rattle.std.proofs.lemmas.{Result.err_from_is_err_and, List.length-take-le}
use Rattle.ttlv_run.specs.{Columns.mark_length, Decoding.is_last, Streaming.window_bytes}
use Rattle.ttlv_run.proofs.TextStreams.{text_starts, memory_before, ready, ready_standing, wrong_there, text_read_fails, more_characters, text_printed}
use Rattle.ttlv_run.proofs.Decided.{unwritten}
use Rattle.ttlv_run.proofs.Windows.{shown_none, no_bytes, faults, fails_in, behind_places, goes_further, no_memory}
use Rattle.ttlv_run.proofs.digits.print_digits.Goals as goal

pub pieces-init : goal.pieces-init
pieces-init g c = λ known h.
    let t = window_bytes c.args.text in
    let mark = c.mark_length-mark.result in
    let mark_is : mark ≡ mark_length t = c.mark_length-mark.ensures.is ∙ ap mark_length c.buffered.ensures.are in
    let within : mark ≤ length t = omega (arith, c.mark_length-mark.ensures.within, ap (λ (s : List ℕ). length s) c.buffered.ensures.are) in
    record {
      m = take mark t;
      s = [];
      all = [];
      long = length-take-le mark t within;
      form_is = c.new-decoder.ensures.form;
      reading = c.new-decoder.ensures.reading;
      input = text_starts t mark mark_is c.discard.ensures h c.requires.form c.requires.front c.requires.at_end;
      plain = rw c.new-bytes.ensures no_bytes;
      shown = rw c.new-bytes.ensures shown_none;
    }

-- memory ran out for the bytes
pub returns-in_err-wrong : goal.returns-in_err-wrong
returns-in_err-wrong g c = λ known h.
    let y = err_from_is_err_and c.from_residual.result c.from_residual.ensures.1 in
    let p = c.pieces.invariant known h in
    rw (y.1, y.2, c.in_err-wrong.ensures.made.holds c.mark_length-mark.result p.s p.all p.reading) (memory_before p)

-- offsets end
pub returns-then-base-buffered : goal.returns-then-base-buffered
returns-then-base-buffered g c = λ known h.
    let r = ready (c.pieces.invariant known h) _ _ c.in_ok-wrong.ensures.made c.in_ok-wrong.ensures.form c.buffered-buffered.ensures.are in
    inr (no_memory r.shown c.buffered-buffered.ensures.bytes (ready_standing r refl))

-- printing failed
pub returns-in_err-count : goal.returns-in_err-count
returns-in_err-count g c = λ known h.
    let y = err_from_is_err_and c.from_residual-in_err-count.result c.from_residual-in_err-count.ensures.1 in
    let r = ready (c.pieces.invariant known h) _ _ c.in_ok-wrong.ensures.made c.in_ok-wrong.ensures.form c.buffered-buffered.ensures.are in
    rw (y.1, y.2) (unwritten c.in_err-count.ensures.why
    (fails_in r.shown c.buffered-buffered.ensures.bytes (ready_standing r c.is_last-last.ensures) c.in_err-count.ensures.err))

pub returns-in-Fault : goal.returns-in-Fault
returns-in-Fault g c = λ known h.
    let r = ready (c.pieces.invariant known h) _ _ c.in_ok-wrong.ensures.made c.in_ok-wrong.ensures.form c.buffered-buffered.ensures.are in
    faults r.shown c.in_ok-count.ensures.ok c.in-Fault.is (ready_standing r c.is_last-last.ensures)

-- a character that can't stand where it does, behind whole messages
pub returns-in-Some : goal.returns-in-Some
returns-in-Some g c = λ known h.
    let r = ready (c.pieces.invariant known h) _ _ c.in_ok-wrong.ensures.made c.in_ok-wrong.ensures.form c.buffered-buffered.ensures.are in
    let going = c.is_last-last.ensures ∙ ap (is_last c.pieces.ended) c.in-Some.is in
    let f = goes_further r.shown _ _ c.in_ok-count.ensures.ok c.in-Behind.is c.in_ok-count.ensures.end going c.buffered-buffered.ensures.bytes in
    rw (c.misread.ensures, c.taken_as.ensures) (wrong_there r f c.in-Some.is)

pub returns-then-ended : goal.returns-then-ended
returns-then-ended g c = λ known h.
    let r = ready (c.pieces.invariant known h) _ _ c.in_ok-wrong.ensures.made c.in_ok-wrong.ensures.form c.buffered-buffered.ensures.are in
    let count = c.in_ok-count.ensures in
    rw c.behind_all.ensures (behind_places (text_printed r c.is_last-last.ensures c.in_default.is c.if-ended.true c.in-Behind.is count.end count.ok) _ refl)

-- reading failed, or memory ran out for it
pub returns-in_err-ended : goal.returns-in_err-ended
returns-in_err-ended g c = λ known h.
    let y = err_from_is_err_and c.from_residual-in_err-ended.result c.from_residual-in_err-ended.ensures.1 in
    let r = ready (c.pieces.invariant known h) _ _ c.in_ok-wrong.ensures.made c.in_ok-wrong.ensures.form c.buffered-buffered.ensures.are in
    let going = c.is_last-last.ensures ∙ ap (is_last c.pieces.ended) c.in_default.is ∙ c.if-ended.false in
    let f = goes_further r.shown _ _ c.in_ok-count.ensures.ok c.in-Behind.is c.in_ok-count.ensures.end going c.buffered-buffered.ensures.bytes in
    rw (y.1, y.2) (text_read_fails r f c.in_default.is c.if-ended.false _ _ _ c.in_err-ended.ensures.why c.in_err-ended.ensures.err)

pub pieces-preserved : goal.pieces-preserved
pieces-preserved g c = λ known h.
    let r = ready (c.pieces.invariant known h) _ _ c.in_ok-wrong.ensures.made c.in_ok-wrong.ensures.form c.buffered-buffered.ensures.are in
    let going = c.is_last-last.ensures ∙ ap (is_last c.pieces.ended) c.in_default.is ∙ c.if-ended.false in
    let f = goes_further r.shown _ _ c.in_ok-count.ensures.ok c.in-Behind.is c.in_ok-count.ensures.end going c.buffered-buffered.ensures.bytes in
    let rest = c.discard-in-Behind.ensures ∙ ap (drop c.in-Behind.count) (sym c.buffered-buffered.ensures.are) in
    more_characters r f c.in_default.is c.if-ended.false c.in_ok-wrong.ensures.left c.in_ok-ended.ensures.ok rest
