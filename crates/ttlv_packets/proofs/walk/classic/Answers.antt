use Rattle.std.proofs.Common.{sym, subst}
use Rattle.ttlv_packets.specs.Files.{Classic, no_record, classic_interface}
use Rattle.ttlv_packets.proofs.Walking.{record_moves, stays_within}
use Rattle.ttlv_packets.proofs.walk.classic.Goals as goal

pub records-init : goal.records-init
records-init g c = record {
  within = c.requires;
  reads = subst (Classic c.args.capture.now c.args.port c.args.big (classic_interface c.args.big c.args.capture.now) 24)
      (sym c.new-segments.ensures.items) no_record;
}

pub records-preserved : goal.records-preserved
records-preserved g c = record {
  within = stays_within c.args.capture.now _ c.records.invariant.within c.behind.ensures.is c.in-Some.ensures.within;
  reads = record_moves c.records.invariant.reads c.classic_interface-interface.ensures c.behind.ensures.is c.in-Some.ensures.is c.in_ok-carry.ensures;
}
