use Rattle.std.proofs.Common.{◌∙◌, ◌<◌, arith, subst, sym}
use Rattle.ttlv_packets.proofs.Streaming.{giver_first}
use Rattle.ttlv_packets.proofs.stream.from_giver.Goals as goal

pub returns-else-end_of-place-clause-first : goal.returns-else-end_of-place-clause-first
returns-else-end_of-place-clause-first c =
    let later = c.segments.invariant.later c.args.place (omega arith) in
    giver_first c.args.place c.segments.rest.now _ c.segments.invariant.some (subst (λ k. c.args.place < k) c.end_of.ensures c.if-end_of-place.false)
    ∙ sym later
