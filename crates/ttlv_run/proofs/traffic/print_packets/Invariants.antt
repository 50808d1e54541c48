use Rattle.std.proofs.Common.{take}
use Rattle.kmip_ttlv_types.specs.Held.{held}
use Rattle.ttlv_run.specs.{Texts.names_of, Traffic.notes_of, Traffic.PrintsPackets}
use Rattle.ttlv_run.proofs.traffic.print_packets.Given as goal

abbrev pub invariant-loop-message : goal.invariant-loop-message
invariant-loop-message g l = PrintsPackets (names_of l.names) l.job l.bytes (take l.message-index l.messages)
    (held g.W.Sink.emitted g.W.Sink.room l.fn.output) (held g.W.Sink.emitted g.W.Sink.room l.output) (notes_of l.notes)
