use Rattle.std.proofs.Common.{sym, ◌∙◌, arith}
use Rattle.ttlv_run.proofs.Packets.{message_behind}
use Rattle.ttlv_run.proofs.guess.has_message.Goals as goal

pub loop-i-preserved : goal.loop-i-preserved
loop-i-preserved c = message_behind c.args.text.now c.loop-i.i (omega arith) (sym c.starts_message.ensures ∙ c.if-starts_message.false) c.loop-i.invariant
