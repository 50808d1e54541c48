use Rattle.std.proofs.Common.{◌-◌, length}
use Rattle.ttlv_run.specs.Streaming.{window_bytes, Yields}
use Rattle.ttlv_run.proofs.run.read_front.Given as goal

abbrev pub invariant-pieces : goal.invariant-pieces
invariant-pieces g l = Yields (g.R.Source.left l.fn.input) (g.R.Source.left l.input) (window_bytes l.fn.window) (window_bytes l.window)

abbrev pub decreases-pieces : goal.decreases-pieces
decreases-pieces g l = 1024 - length (window_bytes l.window)
