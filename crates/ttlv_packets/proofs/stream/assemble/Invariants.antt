use Rattle.std.proofs.Common.{◌≡◌, ◌++◌, drop}
use Rattle.ttlv_packets.specs.Streams.{stream_bytes, reach}
use Rattle.ttlv_packets.proofs.stream.assemble.Given as goal

abbrev pub invariant-loop-placed : goal.invariant-loop-placed
invariant-loop-placed g l = record {
  bytes : l.fn.bytes.items ++ stream_bytes l.capture l.first l.run
      ≡ l.bytes.items ++ stream_bytes l.capture l.next (drop l.placed-index l.run);
  end : reach l.first l.run ≡ reach l.next (drop l.placed-index l.run);
}
