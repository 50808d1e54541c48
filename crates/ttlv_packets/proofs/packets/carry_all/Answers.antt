use Rattle.std.proofs.Common.{arith, ◌∙◌, refl}
use Rattle.ttlv_packets.proofs.Carrying.{carries_none, carries_more}
use Rattle.ttlv_packets.proofs.packets.carry_all.Goals as goal

pub streams-init : goal.streams-init
streams-init g c = record {
  within = omega arith;
  end = refl;
  carries = carries_none c.args.capture.now c.args.places.now c.requires.bytes c.requires.messages;
}

pub streams-preserved : goal.streams-preserved
streams-preserved g c = record {
  within = c.run_at-run.ensures.within;
  end = c.carry.ensures.end ∙ c.streams.invariant.end;
  carries = carries_more c.args.capture.now c.args.places.now c.run_at-run.result.now c.streams.at c.streams.invariant.carries c.streams-test.true
      c.run_at-run.ensures.is c.in_ok-carry.ensures.carried;
}
