use Rattle.std.proofs.Common.{◌∙◌, drop, ap, refl, sym}
use Rattle.std.proofs.{KnownBytes.Consumes-nil, lemmas.Result.err_from_is_err_and}
use Rattle.ttlv_run.proofs.BackStreams.{back_starts, back_of, back_came, back_goes, back_printed, back_unwritten, back_no_text, back_no_memory, back_read_fails}
use Rattle.ttlv_run.proofs.Decided.{unwritten_back}
use Rattle.ttlv_run.proofs.run.read_back.Goals as goal

pub pieces-init : goal.pieces-init
pieces-init g c = record { reading = back_of (back_starts (Consumes-nil (g.R.Source.left c.args.input.now))) c.new-window.ensures; at_end = λ e. cc }

-- offsets end
pub returns-then-base-buffered : goal.returns-then-base-buffered
returns-then-base-buffered g c = back_no_memory (back_of c.pieces.invariant.reading c.buffered-buffered.ensures.are)

-- printing failed
pub returns-in_err-reached : goal.returns-in_err-reached
returns-in_err-reached g c =
    let p = back_of c.pieces.invariant.reading c.buffered-buffered.ensures.are in
    let y = err_from_is_err_and c.from_residual.result c.from_residual.ensures.1 in
    rw (y.1, y.2) (unwritten_back c.in_err-reached.ensures.why (back_unwritten p c.pieces.invariant.at_end c.in_err-reached.ensures.err))

-- a line is no text
pub returns-in-NoText : goal.returns-in-NoText
returns-in-NoText g c =
    let p = back_of c.pieces.invariant.reading c.buffered-buffered.ensures.are in
    back_no_text p _ c.in_ok-reached.ensures.ok c.in-NoText.is c.pieces.invariant.at_end

-- all lines were read back
pub returns-then-ended : goal.returns-then-ended
returns-then-ended g c =
    let p = back_of c.pieces.invariant.reading c.buffered-buffered.ensures.are in
    back_printed p _ c.in_ok-reached.ensures.ok c.if-ended.true c.in-Behind.is c.or-first.ensures (c.pieces.invariant.at_end c.if-ended.true)

-- reading failed, or memory ran out for it
pub returns-in_err-ended : goal.returns-in_err-ended
returns-in_err-ended g c =
    let p = back_of c.pieces.invariant.reading c.buffered-buffered.ensures.are in
    let on = back_goes p _ c.in_ok-reached.ensures.ok c.if-ended.false c.in-Behind.is refl in
    let left = c.discard.ensures ∙ ap (drop c.in-Behind.count) (sym c.buffered-buffered.ensures.are) in
    let y = err_from_is_err_and c.from_residual-in_err-ended.result c.from_residual-in_err-ended.ensures.1 in
    rw (y.1, y.2) (back_read_fails _ on.0 left on.1 c.in_err-ended.ensures.err _ c.in_err-ended.ensures.why)

pub pieces-preserved : goal.pieces-preserved
pieces-preserved g c =
    let p = back_of c.pieces.invariant.reading c.buffered-buffered.ensures.are in
    let on = back_goes p _ c.in_ok-reached.ensures.ok c.if-ended.false c.in-Behind.is c.or-first.ensures in
    let left = c.discard.ensures ∙ ap (drop c.in-Behind.count) (sym c.buffered-buffered.ensures.are) in
    record { reading = back_came on.0 left c.in_ok-ended.ensures.ok.yields; at_end = c.in_ok-ended.ensures.ok.at_end }
