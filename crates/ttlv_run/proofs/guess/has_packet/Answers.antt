use Rattle.std.proofs.Common.{sym, ◌∙◌, arith}
use Rattle.ttlv_run.proofs.Packets.{packet_behind}
use Rattle.ttlv_run.proofs.guess.has_packet.Goals as goal

pub loop-i-preserved : goal.loop-i-preserved
loop-i-preserved c = packet_behind c.args.text.now c.loop-i.i (omega arith) (sym c.starts_packet.ensures.is ∙ c.if-starts_packet.false) c.loop-i.invariant
