use Rattle.kmip_attribute_set.proofs.tags.ByTagsSerialize.visit.Goals as goal

pub returns-clause-received : goal.returns-clause-received
returns-clause-received g c =
    λ s k. c.in_ok-end_structure.ensures.received _ (c.in_ok-visit_all.ensures.received _ (c.in_ok-begin_structure.ensures.received s k))
