use Rattle.std.proofs.Common.{◌≤◌, length, ap, arith}
use Rattle.ttlv_run.specs.Fronts.{front_size}
use Rattle.ttlv_run.proofs.{FrontsDecided.size_most, Windows.comes_more}
use Rattle.ttlv_run.proofs.run.read_front.Goals as goal

pub returns-then-branch-eq0-clause-ok : goal.returns-then-branch-eq0-clause-ok
returns-then-branch-eq0-clause-ok g c =
    let more = c.in_ok-read_more.ensures.ok in
    record {
      yields = comes_more c.pieces.invariant more.yields;
      enough = λ e. cc e;
      at_end = λ e. more.ended c.if-branch-eq0.true;
    }

pub pieces-smaller : goal.pieces-smaller
pieces-smaller g c =
    let most : front_size c.args.encoding c.buffered-in-pieces.result.now ≤ 1024 = size_most c.args.encoding c.buffered-in-pieces.result.now in
    let more = c.in_ok-read_more.ensures.ok.as_many in
    omega (arith, most, more, c.if-branch-eq0.false, c.pieces-test.true, c.front_size.ensures, ap length c.buffered.ensures.are)

pub pieces-preserved : goal.pieces-preserved
pieces-preserved g c = comes_more c.pieces.invariant c.in_ok-read_more.ensures.ok.yields
