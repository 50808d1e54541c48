use Rattle.std.proofs.Common.{◌≡◌, ◌+◌, ◌-◌, ◌*◌, ◌^◌, true, length, drop}
use Rattle.std.specs.Io.KnownBytes.{IsAtEnd}
use Rattle.kmip_ttlv_types.specs.Held.{held}
use Rattle.ttlv_run.specs.JsonEnds.{IsSeen}
use Rattle.ttlv_run.specs.Streaming.{window_bytes}
use Rattle.ttlv_run.proofs.{JsonReads.JsonReading, Windows.as_number}
use Rattle.ttlv_run.proofs.from_json.read_json.Given as goal

abbrev pub invariant-values : goal.invariant-values
invariant-values g l = record {
  reading : JsonReading l.raw (g.R.Source.left l.fn.input) (g.R.Source.left l.input)
      (held g.W.Sink.emitted g.W.Sink.room l.fn.output) (held g.W.Sink.emitted g.W.Sink.room l.output) l.base
      l.at (window_bytes l.window);
  seen : IsSeen (drop l.at (window_bytes l.window)) l.seen l.part;
  at_end : l.ended ≡ true → IsAtEnd (g.R.Source.left l.input);
}

abbrev pub decreases-values : goal.decreases-values
decreases-values g l = (2 ^ 64 - (l.base + length (window_bytes l.window))) * 2 ^ 66 + 2 * (length (window_bytes l.window) - l.at) - as_number l.ended
