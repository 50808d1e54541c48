use Rattle.std.proofs.Common.{ℕ, ◌+◌, ◌-◌, ◌*◌, ◌^◌, List, Option, length}
use Rattle.std.specs.Io.KnownBytes.{Consumes}
use Rattle.kmip_ttlv_types.specs.Held.{held}
use Rattle.ttlv_run.specs.{Streaming.window_bytes, Texts.names_of}
use Rattle.ttlv_run.proofs.Windows.{Printing, as_number}
use Rattle.ttlv_run.proofs.run.print_raw.Given as goal

abbrev pub invariant-pieces : goal.invariant-pieces
invariant-pieces g l = (known : Option (List ℕ)) → Consumes known (g.R.Source.left l.fn.input) (window_bytes l.fn.window)
    → Printing (names_of l.names) l.job known (g.R.Source.left l.input)
    (held g.W.Sink.emitted g.W.Sink.room l.fn.output) (held g.W.Sink.emitted g.W.Sink.room l.output) l.base
    (window_bytes l.window) l.ended

abbrev pub decreases-pieces : goal.decreases-pieces
decreases-pieces g l = 2 * (2 ^ 64 - (l.base + length (window_bytes l.window))) - as_number l.ended
