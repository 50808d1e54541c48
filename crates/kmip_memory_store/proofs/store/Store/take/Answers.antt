use Rattle.std.proofs.Common.{arith}
use borrow.Author.Rules.{sfits_of}
use Rattle.kmip_memory_store.proofs.store.Store.take.Goals as goal
use Rattle.kmip_memory_store.proofs.Places.{all_kept, others_kept, step_taken}

pub returns-clause-steps : goal.returns-clause-steps
returns-clause-steps g c =
    step_taken c.args.step c.args.now c.args.self.now c.args.id c.index_mut.result.now c.take.new.self c.take.result
    (sfits_of c.ranges.now.sfits) (omega (arith, c.if-id-len.false, c.len.ensures)) c.index_mut.ensures.value c.take.ensures.takes

pub returns-clause-others : goal.returns-clause-others
returns-clause-others g c = others_kept c.args.self.now c.args.id c.take.new.self

pub returns-clause-denied : goal.returns-clause-denied
returns-clause-denied g c =
    all_kept c.args.self.now c.args.id c.index_mut.result.now c.take.new.self c.take.result c.index_mut.ensures.value c.take.ensures.denied
