use Rattle.std.proofs.Common.{◌∙◌, ◌++◌, ℕ, List, sym, ap}
use Rattle.std.proofs.lemmas.List.{append-nil}
use Rattle.ttlv_packets.proofs.Streaming.{bytes_stop, assembled, reached_on}
use Rattle.ttlv_packets.proofs.stream.assemble.Goals as goal

pub returns-then-next-placed-clause-bytes : goal.returns-then-next-placed-clause-bytes
returns-then-next-placed-clause-bytes g c =
    let l = c.loop-placed in
    let none = bytes_stop c.args.capture.now l.next c.args.run.now l.placed-index _ c.loop-placed-test.true c.if-next-placed.true in
    sym (l.invariant.bytes ∙ ap (λ (t : List ℕ). l.bytes.items ++ t) none ∙ append-nil l.bytes.items)

pub loop-placed-preserved : goal.loop-placed-preserved
loop-placed-preserved g c =
    let l = c.loop-placed in
    let run = c.args.run.now in
    let e = c.in_ok-extend_from_slice.ensures.items in
    record {
      bytes = assembled c.args.capture.now c.args.bytes.now.items l.bytes.items c.new_bytes.result.now _ c.args.first l.next _ _ run l.placed-index _
          c.loop-placed-test.true c.if-next-placed.false l.invariant.bytes c.new_bytes.ensures e c.max-next.ensures c.end_of.ensures;
      end = reached_on c.args.first l.next _ _ run l.placed-index _
          c.loop-placed-test.true c.if-next-placed.false l.invariant.end c.max-next.ensures c.end_of.ensures;
    }
