use Rattle.std.proofs.Common.{ℕ, ◌+◌, ◌-◌, ◌*◌, ◌^◌, List, Option, length}
use Rattle.std.specs.Io.KnownBytes.{Consumes}
use Rattle.kmip_ttlv_types.specs.Held.{held}
use Rattle.ttlv_run.specs.{Decoding.characters, Streaming.window_bytes, Texts.names_of}
use Rattle.ttlv_run.proofs.{TextStreams.TextPrinting, Windows.as_number}
use Rattle.ttlv_run.proofs.digits.print_digits.Given as goal

abbrev pub invariant-pieces : goal.invariant-pieces
invariant-pieces g l = (known : Option (List ℕ)) → Consumes known (g.R.Source.left l.fn.input) (window_bytes l.fn.text)
    → TextPrinting (names_of l.names) l.job l.form known (g.R.Source.left l.input)
    (held g.W.Sink.emitted g.W.Sink.room l.fn.output) (held g.W.Sink.emitted g.W.Sink.room l.output) l.base
    l.decoder l.mark (window_bytes l.text) (window_bytes l.bytes) l.ended

abbrev pub decreases-pieces : goal.decreases-pieces
decreases-pieces g l = 2 * (2 ^ 64 - (characters l.decoder + length (window_bytes l.text))) - as_number l.ended
