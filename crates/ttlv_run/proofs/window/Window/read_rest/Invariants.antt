use Rattle.std.proofs.Common.{◌≡◌, ◌-◌, ◌*◌, ◌^◌, true, length}
use Rattle.std.specs.Io.KnownBytes.{IsAtEnd}
use Rattle.ttlv_run.specs.{Streaming.window_bytes, Streaming.Yields}
use Rattle.ttlv_run.proofs.Windows.{as_number}
use Rattle.ttlv_run.proofs.window.Window.read_rest.Given as goal

abbrev pub invariant-pieces : goal.invariant-pieces
invariant-pieces g l = record {
  yields : Yields (g.R.Source.left l.fn.input) (g.R.Source.left l.input) (window_bytes l.fn.self) (window_bytes l.self);
  at_end : l.at_end ≡ true → IsAtEnd (g.R.Source.left l.input);
}

abbrev pub decreases-pieces : goal.decreases-pieces
decreases-pieces g l = 2 * (2 ^ 64 - length (window_bytes l.self)) - as_number l.at_end
