use Rattle.std.proofs.Common.{arith}
use Rattle.ttlv_packets.proofs.Walking.{block_moves, blocks_begin, stays_within}
use Rattle.ttlv_packets.proofs.walk.blocks.Goals as goal

pub parts-preserved : goal.parts-preserved
parts-preserved g c = record {
  within = stays_within c.args.capture.now _ c.parts.invariant.within c.behind.ensures.is c.in-Some.ensures.within;
  reads = block_moves c.parts.invariant.reads c.as_slice-interfaces.ensures.value c.behind.ensures.is c.in-Some.ensures.is
      c.in_ok-enter.ensures.order c.in_ok-enter.ensures.interfaces c.in_ok-carry.ensures;
}

pub parts-init : goal.parts-init
parts-init g c = record {
  within = omega arith;
  reads = blocks_begin c.args.capture.now c.args.port c.new.ensures.items c.new-segments.ensures.items;
}
