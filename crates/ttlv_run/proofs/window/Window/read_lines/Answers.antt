use Rattle.std.proofs.Common.{rules, ◌≡◌, false}
use Rattle.ttlv_run.proofs.{BackLines.still_one_line, Windows.comes_more}
use Rattle.ttlv_run.proofs.window.Window.read_lines.Goals as goal

pub pieces-preserved : goal.pieces-preserved
pieces-preserved g c =
    let more = c.in_ok-read_behind.ensures.ok.yields in
    let none : c.has_line_feed.result ≡ false = search rules in
    let rest = rw (c.buffered-before.ensures.are, c.buffered.ensures.are) at (c.has_line_feed.ensures none) in
    record {
      yields = comes_more c.pieces.invariant.yields more;
      one_line = λ one. still_one_line more (c.pieces.invariant.one_line one) rest;
    }
