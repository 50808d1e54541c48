use Rattle.ttlv_vectors.proofs.lists.BinderStructure.tell_parts.Goals as goal

pub returns-clause-told : goal.returns-clause-told
returns-clause-told g c = g.W.Walk.steps.behind _ _ _ _ _ c.in_ok-four.ensures.told c.in_ok-three.ensures.told
