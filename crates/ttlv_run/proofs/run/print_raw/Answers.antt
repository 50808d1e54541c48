use Rattle.std.proofs.Common.{◌∙◌, inr, drop, ap, sym, refl}
use Rattle.std.proofs.lemmas.Result.{err_from_is_err_and}
use Rattle.ttlv_run.specs.Streaming.{window_bytes}
use Rattle.ttlv_run.proofs.Decided.{unwritten}
use Rattle.ttlv_run.proofs.Windows.{shown_none, raw_standing, of_bytes, faults, fails_in, printed, behind_places, goes_further, more_came, no_memory}
use Rattle.ttlv_run.proofs.Windows.{read_fails}
use Rattle.ttlv_run.proofs.run.print_raw.Goals as goal

pub pieces-init : goal.pieces-init
pieces-init g c = λ known h. record {
  came = window_bytes c.args.window;
  shown = shown_none;
  input = record { consumed = h; raw = c.requires.raw; enough = c.requires.front; at_end = c.requires.at_end };
}

-- offsets end
pub returns-then-base-buffered : goal.returns-then-base-buffered
returns-then-base-buffered g c = λ known h.
    let p = of_bytes (c.pieces.invariant known h) c.buffered-buffered.ensures.are in
    inr (no_memory p.shown c.buffered-buffered.ensures.bytes (raw_standing p.input))

-- printing failed
pub returns-in_err-count : goal.returns-in_err-count
returns-in_err-count g c = λ known h.
    let y = err_from_is_err_and c.from_residual.result c.from_residual.ensures.1 in
    let p = of_bytes (c.pieces.invariant known h) c.buffered-buffered.ensures.are in
    rw (y.1, y.2) (unwritten c.in_err-count.ensures.why
    (fails_in p.shown c.buffered-buffered.ensures.bytes (raw_standing p.input) c.in_err-count.ensures.err))

pub returns-in-Fault : goal.returns-in-Fault
returns-in-Fault g c = λ known h.
    let p = of_bytes (c.pieces.invariant known h) c.buffered-buffered.ensures.are in
    faults p.shown c.in_ok-count.ensures.ok c.in-Fault.is (raw_standing p.input)

pub returns-then-ended : goal.returns-then-ended
returns-then-ended g c = λ known h.
    let p = of_bytes (c.pieces.invariant known h) c.buffered-buffered.ensures.are in
    rw c.behind_all.ensures (behind_places (printed p c.in-Behind.is c.in_ok-count.ensures.end c.if-ended.true c.in_ok-count.ensures.ok) _ refl)

-- reading failed, or memory ran out for it
pub returns-in_err-ended : goal.returns-in_err-ended
returns-in_err-ended g c = λ known h.
    let y = err_from_is_err_and c.from_residual-in_err-ended.result c.from_residual-in_err-ended.ensures.1 in
    let p = of_bytes (c.pieces.invariant known h) c.buffered-buffered.ensures.are in
    let count = c.in_ok-count.ensures in
    let f = goes_further p.shown _ _ count.ok c.in-Behind.is count.end c.if-ended.false c.buffered-buffered.ensures.bytes in
    rw (y.1, y.2) (read_fails p f c.if-ended.false _ _ _ c.in_err-ended.ensures.why c.in_err-ended.ensures.err)

pub pieces-preserved : goal.pieces-preserved
pieces-preserved g c = λ known h.
    let p = of_bytes (c.pieces.invariant known h) c.buffered-buffered.ensures.are in
    let count = c.in_ok-count.ensures in
    let f = goes_further p.shown _ _ count.ok c.in-Behind.is count.end c.if-ended.false c.buffered-buffered.ensures.bytes in
    let rest = c.discard.ensures ∙ ap (drop c.in-Behind.count) (sym c.buffered-buffered.ensures.are) in
    more_came p f c.if-ended.false rest c.in_ok-ended.ensures.ok
