use Rattle.std.proofs.Common.{◌-◌, ◌^◌, length}
use Rattle.ttlv_run.specs.{Backs.IsOneLine, Streaming.window_bytes, Streaming.Yields}
use Rattle.ttlv_run.proofs.window.Window.read_lines.Given as goal

abbrev pub invariant-pieces : goal.invariant-pieces
invariant-pieces g l = record {
  yields : Yields (g.R.Source.left l.fn.input) (g.R.Source.left l.input) (window_bytes l.fn.self) (window_bytes l.self);
  one_line : IsOneLine (window_bytes l.fn.self) → IsOneLine (window_bytes l.self);
}

abbrev pub decreases-pieces : goal.decreases-pieces
decreases-pieces g l = 2 ^ 64 - length (window_bytes l.self)
