use Rattle.std.proofs.Common.{◌≡◌, ◌+◌, ◌-◌, ◌*◌, ◌^◌, true, length}
use Rattle.std.specs.Io.KnownBytes.{IsAtEnd}
use Rattle.kmip_ttlv_types.specs.Held.{held}
use Rattle.ttlv_run.specs.{Streaming.window_bytes, Texts.names_of}
use Rattle.ttlv_run.proofs.{BackStreams.BackReading, Windows.as_number}
use Rattle.ttlv_run.proofs.run.read_back.Given as goal

abbrev pub invariant-pieces : goal.invariant-pieces
invariant-pieces g l = record {
  reading : BackReading (names_of l.names) l.prefix (g.R.Source.left l.fn.input) (g.R.Source.left l.input) (held g.W.Sink.emitted g.W.Sink.room l.fn.output)
      (held g.W.Sink.emitted g.W.Sink.room l.output) l.base (window_bytes l.window) l.first;
  at_end : l.ended ≡ true → IsAtEnd (g.R.Source.left l.input);
}

abbrev pub decreases-pieces : goal.decreases-pieces
decreases-pieces g l = 2 * (2 ^ 64 - (l.base + length (window_bytes l.window))) - as_number l.ended
