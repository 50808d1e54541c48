use Rattle.std.proofs.Common.{◌∙◌, ◌-◌, drop, length, take_all, arith}
use Rattle.std.proofs.lemmas.Result.{err_from_is_err_and}
use Rattle.std.proofs.lemmas.List.{length-drop}
use Rattle.ttlv_run.proofs.Decoders.{piece_more, piece_wrong}
use Rattle.ttlv_run.proofs.DigitRuns.{piece_run, run_fails}
use Rattle.ttlv_run.proofs.digits.decode_piece.Goals as goal

pub returns-in-Some-clause-made : goal.returns-in-Some-clause-made
returns-in-Some-clause-made g c =
    piece_wrong c.push.new.self c.args.piece.now c.characters.at c.push.result c.characters.invariant.grows c.characters-test.true c.push.ensures.made
    c.in-Some.is c.in_ok-why.ensures c.push.ensures.form

pub returns-in_err-run-clause-made : goal.returns-in_err-run-clause-made
returns-in_err-run-clause-made g c =
    let y = err_from_is_err_and c.from_residual-in_err-run.result c.from_residual-in_err-run.ensures.1 in
    let more = piece_more c.push.new.self c.args.piece.now c.characters.at c.push.result c.characters.invariant.grows c.characters-test.true
    c.push.ensures.made c.in_default.is c.in_ok-why.ensures in
    rw (y.1, y.2) (run_fails c.decode_run.new.decoder c.args.piece.now c.characters.at more _ c.in_err-run.ensures.made)

pub characters-preserved : goal.characters-preserved
characters-preserved g c =
    let more = piece_more c.push.new.self c.args.piece.now c.characters.at c.push.result c.characters.invariant.grows c.characters-test.true
    c.push.ensures.made c.in_default.is c.in_ok-why.ensures in
    let long = length-drop c.characters.at c.args.piece.now in
    record {
      grows = piece_run c.decode_run.new.decoder c.args.piece.now c.characters.at more _ _
          (take_all (length c.args.piece.now - c.characters.at) (drop c.characters.at c.args.piece.now) (omega (arith, long))) c.in_ok-run.ensures.made;
      within = omega (arith, c.in_ok-run.ensures.within, c.characters-test.true, long);
      offset = omega (arith, c.in_ok-run.ensures.moved, c.push.ensures.offset, c.characters.invariant.offset);
      count = omega (arith, c.in_ok-run.ensures.count, c.push.ensures.count, c.characters.invariant.count);
      form = c.in_ok-run.ensures.form ∙ c.push.ensures.form ∙ c.characters.invariant.form;
    }

pub returns-clause-made : goal.returns-clause-made
returns-clause-made g c =
    let grows = rw (take_all c.characters.at c.args.piece.now c.characters-test.false) at c.characters.invariant.grows in
    grows
